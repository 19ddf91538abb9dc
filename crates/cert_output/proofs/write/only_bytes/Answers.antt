use Rattle.cert_output.proofs.OnlyPart.{only-part}
use Rattle.cert_output.proofs.write.only_bytes.Goals as goal

pub returns-in-Bytes : goal.returns-in-Bytes
returns-in-Bytes c = only-part c.args.parts.now c.index-parts-0.result c.in-Bytes.text c.if-parts-ne1.false c.index-parts-0.is c.in-Bytes.is
