use Rattle.shared_heap.specs.Merge.{lines_in}
use Rattle.shared_heap.proofs.gated.run_gated.Given as goal

abbrev pub ghosts-do_all : goal.ghosts-do_all
ghosts-do_all g a = record { settings = a.settings; lists = lines_in a.lists.items }
