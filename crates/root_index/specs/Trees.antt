-- How an index keeps its entries.
use Rattle.std.specs.Prelude.{◌≡◌, ◌<◌, ◌≤◌, ◌+◌, ◌^◌, ◌⊎◌, ℕ, suc, List, length, sum_by, vec_len, vec_capacity}
use Rattle.xid_circle.specs.Numbers.{Count}
use Rattle.index_entries.specs.declared.entry.Entry.{Entry}
use Rattle.index_entries.specs.Order.{IsAscending}
use Rattle.entry_columns.specs.Columns.{ColumnsView}
use Rattle.index_leaves.specs.Lists.{halves_more, long_leaves, ListsView, HaveListPlaces}
use Rattle.index_nodes.specs.declared.nodes.Spares.{Spares}
use Rattle.index_nodes.specs.Nodes.{all, AreNeat, AreLeft, HavePlaces}

-- A tree as contracts see it: its branches, each the list of its leaves.

abbrev pub BranchView : Type 0
BranchView = List ColumnsView

abbrev pub Tree : Type 0
Tree = List BranchView

abbrev pub branch_entries : BranchView → List Entry
branch_entries branch = all (λ (leaf : ColumnsView). leaf.entries) branch

abbrev pub tree_entries : Tree → List Entry
tree_entries tree = all branch_entries tree

-- the entries of the trees, one tree after another
abbrev pub among : List Tree → List Entry
among trees = all tree_entries trees

-- the number of nodes that they are made of, where a leaf with places for 128 entries counts twice
abbrev pub nodes_of : List Tree → ℕ
nodes_of trees = sum_by (λ (tree : Tree). suc (sum_by (λ (branch : BranchView). suc (sum_by (λ (leaf : ColumnsView). 1 + halves_more leaf.room) branch)) tree)) trees

-- the number of leaves with places for 128 entries that have 64 or more
abbrev pub long_among : List Tree → ℕ
long_among trees = sum_by (λ (tree : Tree). sum_by (λ (branch : BranchView). sum_by long_leaves branch) tree) trees

-- no leaf of the branch is empty
abbrev pub IsNeatBranch : BranchView → Type 0
IsNeatBranch branch = AreNeat (λ (leaf : ColumnsView). Unit {0}) (λ leaf. length leaf.entries) branch

-- nor a branch of the tree
abbrev pub IsNeatTree : Tree → Type 0
IsNeatTree tree = AreNeat IsNeatBranch (λ branch. length branch) tree

-- What is set aside below the trees.

abbrev pub SpareLeaves : Type 0
SpareLeaves = Spares ColumnsView ListsView

abbrev pub SpareBranches : Type 0
SpareBranches = Spares BranchView SpareLeaves

-- the spare leaves are enough for so many inserts, and the lists for those that outgrow theirs
abbrev pub AreLeavesLeft : SpareLeaves → Count → Type 0
AreLeavesLeft leaves k = AreLeft (λ (lists : ListsView) k. k ≤ lists.large) (vec_len leaves.nodes) leaves.below k

-- and the spare branches too
abbrev pub AreBranchesLeft : SpareBranches → Count → Type 0
AreBranchesLeft branches k = AreLeft AreLeavesLeft (vec_len branches.nodes) branches.below k

-- a leaf that is emptied has a place
abbrev pub HaveLeafPlaces : SpareLeaves → Type 0
HaveLeafPlaces leaves = HavePlaces HaveListPlaces (vec_capacity leaves.nodes) leaves.below

-- and a branch too
abbrev pub HaveBranchPlaces : SpareBranches → Type 0
HaveBranchPlaces branches = HavePlaces HaveLeafPlaces (vec_capacity branches.nodes) branches.below

-- a leaf that outgrows its list gets a larger one without memory
abbrev pub HaveReserve : SpareBranches → Type 0
HaveReserve branches = 0 < branches.below.below.large

-- what is set aside for inserts to come, and for nodes that are emptied
pub record SetAside : Type 1 where
  -- places that the list of trees has left
  pub places : Count
  -- spare trees
  pub trees : Count
  -- the spare nodes below are enough for so many inserts
  pub HasLeft : Count → Type 0
  -- each kind of node that is emptied has a place
  pub HasPlaces : Type 0
  -- a leaf that outgrows its list gets a larger one
  pub HasReserve : Type 0

-- the trees, what is set aside beside them, the count of entries, and how many more may come without memory
pub record IsSoundIndex (trees : List Tree) (aside : SetAside) (count promised : Count) : Type 0 where
  -- each entry stands once
  pub ascending : IsAscending (among trees)
  -- no tree is empty, nor any node of one
  pub neat : AreNeat IsNeatTree (λ tree. length tree) trees
  pub counted : count ≡ length (among trees)
  -- an insert may split a node of each kind, and the list of trees grows then
  pub in_list : promised ≤ aside.places
  pub in_trees : promised ≤ aside.trees
  pub below : aside.HasLeft promised
  -- once there is an entry, a sweep may empty the nodes that it stands in
  pub places : 0 < count → aside.HasPlaces
  -- so the next leaf that outgrows its list asks for no memory, or another has half of all that fit into a leaf
  pub ready : 0 < count → aside.HasReserve ⊎ (0 < long_among trees)
  pub countable : count + promised < 2 ^ 64
