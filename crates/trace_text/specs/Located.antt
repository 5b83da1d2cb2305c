-- An attribute and its location, as it is kept.
use Rattle.std.specs.Prelude.{ℕ}
use Rattle.state_model.specs.declared.parts.Attribute.{Attribute}
use Rattle.trace_model.specs.Lines.{LocatedAttribute}

abbrev pub located : ℕ → Attribute → LocatedAttribute
located location attribute = record { location = location; attribute = attribute }
