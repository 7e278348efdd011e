-- The kinds of index.
use Rattle.root_index.specs.View.{IndexView}
use Rattle.root_index.specs.declared.root.Kind.{Kind}
use Rattle.root_index.specs.declared.root.Kind.TheVariants.{ByKey, Narrow, ByColumn}

-- the index, of whichever kind it is
abbrev pub kind_view : Kind → IndexView
kind_view (ByKey index) = index
kind_view (Narrow index) = index
kind_view (ByColumn index) = index
