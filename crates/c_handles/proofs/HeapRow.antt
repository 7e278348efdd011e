-- The C library's heap as the allocator of a box.
use Rattle.std.proofs.Common.{[], ◌∷◌, refl}
use mir.Syntax.{Ty, Dict, impl, tnil, tcons, dnil}
use mir.Raw.{raw as bare}
use denote.Exit.{no}
use denote.Param.{arg, layout}
use denote.Param.Laws.{Laws, arg_laws}
use denote.RattleType.{RattleType}
use Rattle.std.specs.contracts.alloc.Global as heap
use Rattle.std.proofs.alloc.Global.TheLaws as heap_laws
use Rattle.std.specs.contracts.impls.GlobalAllocator.TheImpl.{ghosts, dict}
use Rattle.std_alloc.proofs.BoxSteps.Form.{Bx}

abbrev heap_layout : Ty
heap_layout = bare (layout heap.the_row)

-- as a call passes it
abbrev pub heap_row : RattleType
heap_row = arg heap_layout no heap.the_row

abbrev pub heap_row_laws : Laws heap_row
heap_row_laws = arg_laws heap_layout no heap.the_row heap_laws.the_row_laws refl

-- a `Global` needs no drop
abbrev pub heap_drops : Dict
heap_drops = impl ("c_handles::Destruct++none::drop" ∷ []) (tcons heap_layout tnil) dnil

-- a box on this heap
abbrev pub heap_box : (T : RattleType) → Laws T → Bx
heap_box T L = record { row = T; laws = L; al = record { row = heap_row; laws = heap_row_laws; g = ghosts; d = dict; drops = heap_drops } }
