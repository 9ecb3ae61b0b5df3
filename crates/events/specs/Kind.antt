-- The numbers of the kinds of events.
use Rattle.std.specs.Prelude.{◌≡◌, ℕ, ◌<◌, cond, Result, Ok, Err}
use Rattle.edit.specs.Change.{is_adding}
use Rattle.events.specs.declared.kind.Kind.{Kind}
use Rattle.events.specs.declared.kind.Kind.TheVariants.{Anchor, Edge}
use Rattle.table.specs.declared.refusal.Rule.{Rule}
use Rattle.table.specs.declared.refusal.Rule.TheVariants.{Byte}

-- 0 to anchor, 1 to add an edge, 2 to drop one
abbrev pub kind_number : Kind → ℕ
kind_number Anchor = 0
kind_number (Edge change) = cond (is_adding change) 1 2

-- a number gives the kind whose number it is; one above 2 is no kind's, and breaks the rule of bytes
abbrev pub Decodes : ℕ → Result Kind Rule → Type 0
Decodes number (Ok kind) = number ≡ kind_number kind
Decodes number (Err rule) = (2 < number) × (rule ≡ Byte)
