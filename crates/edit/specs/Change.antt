-- What an event does to its edge.
use Rattle.std.specs.Prelude.{Bool, true, false}
use Rattle.edit.specs.declared.edge.Change.{Change}
use Rattle.edit.specs.declared.edge.Change.TheVariants.{Add, Drop}

abbrev pub is_adding : Change → Bool
is_adding Add = true
is_adding Drop = false
