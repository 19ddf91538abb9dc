-- A call as clauses see it.
use Rattle.cca_base.specs.Given.{Given}
use Rattle.cca_base.specs.declared.trace.Call.{Call}

abbrev pub given_of : Call → Given
given_of c = record { name = c.name.now; at = c.at; room = c.room; bytes = c.bytes.now }
