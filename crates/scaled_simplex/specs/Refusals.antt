-- Why a tableau can't be made or changed.
use Rattle.row_arena.specs.declared.wide.Wide.{Wide}
use Rattle.scaled_simplex.specs.declared.refused.Refused.{Refused}
use Rattle.scaled_simplex.specs.declared.refused.Refused.TheVariants as refused

-- the reason, where it isn't want of memory
abbrev pub IfWide : Refused → (Wide → Type 0) → Type 0
IfWide (refused.Wide wide) P = P wide
IfWide refused.OutOfMemory P = Unit {0}
