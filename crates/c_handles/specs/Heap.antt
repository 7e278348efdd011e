-- The heap of the C library.
use Rattle.std.specs.declared.alloc.Global.{Global}

-- there is one
abbrev pub the_heap : Global
the_heap = record { memory = record { seal = tt } }
