use Rattle.std.proofs.Common.{sym, subst, rules}
use Rattle.line_format.specs.LineText.{stated}
use Rattle.placement_cert.specs.CertValues.{PlaceStopsAt}
use Rattle.placement_cert.specs.Parts.{place_cert_from}
use Rattle.cert_grammar.specs.PlaceCert.{PlaceCertValue}
use Rattle.placement_cert.specs.PlaceSays.{PlaceCertSays}
use Rattle.placement_cert.specs.PlaceText.{IsPlaceCertificate}
use Rattle.placement_cert.proofs.WholeText.{version_stops, opening_stops, placing_stops, payment_stops, closing_stops, end_stops, text_read, made}
use Rattle.placement_cert.proofs.read.read_places.Goals as goal

pub returns-in_err-begin-clause-stops : goal.returns-in_err-begin-clause-stops
returns-in_err-begin-clause-stops c =
    let stops : PlaceStopsAt c.args.bidders c.args.bytes.now c.in_err-begin.field-0.0 = version_stops c.args.bidders c.args.bytes.now c.in_err-begin.field-0.0
    c.in_err-begin.ensures.halts in
    search rules

pub returns-in_err-opening-clause-stops : goal.returns-in_err-opening-clause-stops
returns-in_err-opening-clause-stops c =
    let stops : PlaceStopsAt c.args.bidders c.args.bytes.now c.in_err-opening.field-0.0 = opening_stops c.args.bidders c.args.bytes.now c.in_ok-begin.begin
    c.in_ok-begin.ensures.leads c.in_err-opening.field-0.0 c.in_err-opening.ensures.halts in
    search rules

pub returns-in_err-placing-clause-stops : goal.returns-in_err-placing-clause-stops
returns-in_err-placing-clause-stops c =
    let o = c.in_ok-opening.opening in
    let stops : PlaceStopsAt c.args.bidders c.args.bytes.now c.in_err-placing.field-0.0 = placing_stops c.args.bidders c.args.bytes.now c.in_ok-begin.begin
    c.in_ok-begin.ensures.leads o.den o.value o.next c.in_ok-opening.ensures.leads
    c.in_err-placing.field-0.0 c.in_err-placing.ensures.halts in
    search rules

pub returns-in_err-payments-clause-stops : goal.returns-in_err-payments-clause-stops
returns-in_err-payments-clause-stops c =
    let o = c.in_ok-opening.opening in
    let w = c.in_ok-placing.placing in
    let stops : PlaceStopsAt c.args.bidders c.args.bytes.now c.in_err-payments.field-0.0 = payment_stops c.args.bidders c.args.bytes.now c.in_ok-begin.begin
    c.in_ok-begin.ensures.leads o.den o.value o.next c.in_ok-opening.ensures.leads
    w.order w.choice w.table w.withouts w.next c.in_ok-placing.ensures.leads c.in_err-payments.field-0.0 c.in_err-payments.ensures.halts in
    search rules

pub returns-in_err-closing-clause-stops : goal.returns-in_err-closing-clause-stops
returns-in_err-closing-clause-stops c =
    let o = c.in_ok-opening.opening in
    let w = c.in_ok-placing.placing in
    let p = c.in_ok-payments.payments in
    let stops : PlaceStopsAt c.args.bidders c.args.bytes.now c.in_err-closing.field-0.0 = closing_stops c.args.bidders c.args.bytes.now c.in_ok-begin.begin
    c.in_ok-begin.ensures.leads o.den o.value o.next c.in_ok-opening.ensures.leads
    w.order w.choice w.table w.withouts w.next c.in_ok-placing.ensures.leads p.pay p.rows p.next c.in_ok-payments.ensures.leads c.in_err-closing.field-0.0
    c.in_err-closing.ensures.halts in
    search rules

pub returns-in_err-end_at-clause-stops : goal.returns-in_err-end_at-clause-stops
returns-in_err-end_at-clause-stops c =
    let o = c.in_ok-opening.opening in
    let w = c.in_ok-placing.placing in
    let p = c.in_ok-payments.payments in
    let stops : PlaceStopsAt c.args.bidders c.args.bytes.now c.in_err-end_at.field-0.0 = end_stops c.args.bidders c.args.bytes.now c.in_ok-begin.begin
    c.in_ok-begin.ensures.leads o.den o.value o.next c.in_ok-opening.ensures.leads
    w.order w.choice w.table w.withouts w.next c.in_ok-placing.ensures.leads p.pay p.rows p.next c.in_ok-payments.ensures.leads c.in_ok-closing.closing.table
    c.in_ok-closing.closing.next c.in_ok-closing.ensures.leads
    c.in_err-end_at.field-0.0 c.in_err-end_at.ensures.halts in
    search rules

pub returns-clause-says : goal.returns-clause-says
returns-clause-says c =
    let o = c.in_ok-opening.opening in
    let w = c.in_ok-placing.placing in
    let p = c.in_ok-payments.payments in
    let l = c.in_ok-closing.closing in
    let is : IsPlaceCertificate c.args.bidders (place_cert_from o.den o.value w.choice w.order w.table w.withouts p.pay p.rows l.table) =
    made c.args.bidders o.den o.value w.choice w.order w.table w.withouts p.pay p.rows l.table c.in_ok-opening.ensures.range c.in_ok-placing.ensures.choice
    c.in_ok-placing.ensures.order c.in_ok-placing.ensures.table c.in_ok-placing.ensures.parts
    c.in_ok-payments.ensures.pay c.in_ok-payments.ensures.few c.in_ok-payments.ensures.rows c.in_ok-closing.ensures.table in
    subst (λ (v : PlaceCertValue). PlaceCertSays c.args.bidders c.args.bytes.now (stated v)) (sym c.certificate.ensures) (
      is,
      text_read c.args.bidders c.args.bytes.now c.in_ok-begin.begin c.in_ok-begin.ensures.leads o.den o.value o.next c.in_ok-opening.ensures.leads
          w.order w.choice w.table w.withouts w.next c.in_ok-placing.ensures.leads p.pay p.rows p.next c.in_ok-payments.ensures.leads l.table l.next
          c.in_ok-closing.ensures.leads c.in_ok-end_at.ensures.ok,
    )
