use Rattle.std.proofs.Common.{[], ◌∷◌, refl}
use Rattle.cca_cli.specs.Command.{make}
use Rattle.cca_cli.specs.declared.kind.Kind.TheVariants as commands
use Rattle.cca_cli.specs.declared.status.FileKind.TheVariants.{Award, Log}
use Rattle.cca_commands.specs.Gives.{CommandGives}
use Rattle.cca_commands.proofs.Known.{works-as}
use Rattle.cca_commands.proofs.Progress.{begins, works}
use Rattle.cca_commands.proofs.commands.work_out.Goals as goal

pub returns-in-Price : goal.returns-in-Price
returns-in-Price g c =
    works-as (g.F.Files.folder c.args.files.now) (g.F.Files.folder c.price_work.new.files) c.args.command commands.Price c.price_work.result c.in-Price.is
    (c.price_work.ensures c.args.command.second.now)

pub returns-in-Weigh : goal.returns-in-Weigh
returns-in-Weigh g c =
    works-as (g.F.Files.folder c.args.files.now) (g.F.Files.folder c.weigh_work.new.files) c.args.command commands.Weigh c.weigh_work.result c.in-Weigh.is
    (c.weigh_work.ensures c.args.command.third.now)

pub returns-in-Auction : goal.returns-in-Auction
returns-in-Auction g c =
    works-as (g.F.Files.folder c.args.files.now) (g.F.Files.folder c.auction_work.new.files) c.args.command commands.Auction c.auction_work.result c.in-Auction.is
    (c.auction_work.ensures c.args.command.third.now)

pub returns-in-Award : goal.returns-in-Award
returns-in-Award g c =
    works-as (g.F.Files.folder c.args.files.now) (g.F.Files.folder c.award_work.new.files) c.args.command commands.Award c.award_work.result c.in-Award.is
    (c.award_work.ensures c.args.command.third.now)

pub returns-in-Place : goal.returns-in-Place
returns-in-Place g c =
    works-as (g.F.Files.folder c.args.files.now) (g.F.Files.folder c.place_work.new.files) c.args.command commands.Place c.place_work.result c.in-Place.is
    (c.place_work.ensures c.args.command.second.now)

pub returns-in-Make : goal.returns-in-Make
returns-in-Make g c =
    let command = make c.args.command.number c.args.command.first.now c.args.command.second.now in
    let old = g.F.Files.folder c.args.files.now in
    works-as old old c.args.command commands.Make c.made.result c.in-Make.is
    (works command old old [] (CommandGives command) (begins command old) (Award ∷ Log ∷ []) (refl, (refl, tt)) c.made.result (λ files. c.made.ensures))
