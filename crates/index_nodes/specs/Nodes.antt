-- Nodes one after another, be they leaves or branches.
use Rattle.std.specs.Prelude.{◌≡◌, ◌≢◌, ◌<◌, ◌≤◌, ◌+◌, ◌^◌, ℕ, List, Option, Some, None, map, length, take, slice_get, IfSome, IsSomeAnd}
use Rattle.std.specs.List.{All}
use Rattle.xid_circle.specs.Numbers.{Count}
use Rattle.index_entries.specs.declared.entry.Entry.{Entry}
use Rattle.index_nodes.specs.declared.nodes.TreePosition.{TreePosition}
use Rattle.index_entries.specs.Sets.{IsStart}
use Rattle.index_entries.specs.Lists.{concatenated, rank, EntryPlace}
use Rattle.index_entries.specs.declared.node.TheConstants.{MOST_PARTS}

-- the entries of the nodes, one node after another
abbrev pub all : {N : Type 0} → (N → List Entry) → List N → List Entry
all entries nodes = concatenated (map entries nodes)

-- no node is empty, nor any part of one
abbrev pub AreNeat : {N : Type 0} → (N → Type 0) → (N → ℕ) → List N → Type 0
AreNeat IsNeat size nodes = All (λ n. IsNeat n × (0 < size n)) nodes

-- the number of entries before the node of this number
abbrev pub before_node : {N : Type 0} → (N → List Entry) → List N → ℕ → ℕ
before_node entries nodes number = length (concatenated (take number (map entries nodes)))

-- the number of entries before the position in its node, if there is such a node
abbrev pub inner_rank : {N S : Type 0} → (N → S → ℕ) → Option N → S → ℕ
inner_rank rank None position = 0
inner_rank rank (Some n) position = rank n position

-- the position as a place in its node's list of entries
abbrev pub list_place : {N S : Type 0} → (N → S → ℕ) → List N → TreePosition S → EntryPlace
list_place rank nodes position = record { list = position.node; entry = inner_rank rank (slice_get nodes position.node) position.inner }

-- the number of entries before the position
abbrev pub rank_in : {N S : Type 0} → (N → List Entry) → (N → S → ℕ) → List N → TreePosition S → ℕ
rank_in entries inner nodes position = rank (map entries nodes) (list_place inner nodes position)

-- no node is empty but for that of this number, nor any part of one
abbrev pub AreNeatBut : {N : Type 0} → (N → Type 0) → (N → ℕ) → List N → ℕ → Type 0
AreNeatBut {N} IsNeat size nodes number = (i : ℕ) (n : N) → slice_get nodes i ≡ Some n → IsNeat n × (i ≢ number → 0 < size n)

-- where an entry may be put
pub record IsPositionIn {N S : Type 0} (IsPosition : N → S → Type 0) (nodes : List N) (position : TreePosition S) : Type 0 where
  pub node : 0 < length nodes → position.node < length nodes
  pub inner : IfSome (slice_get nodes position.node) (λ n. IsPosition n position.inner)

-- where an entry stands
abbrev pub IsEntryIn : {N S : Type 0} → (N → S → Type 0) → List N → TreePosition S → Type 0
IsEntryIn IsEntry nodes position = IsSomeAnd (slice_get nodes position.node) (λ n. IsEntry n position.inner)

-- behind all entries of its node
abbrev pub IsBehindIn : {N S : Type 0} → (N → List Entry) → (N → S → ℕ) → List N → TreePosition S → Type 0
IsBehindIn entries rank nodes position = IfSome (slice_get nodes position.node) (λ n. length (entries n) ≤ rank n position.inner)

-- the entries from this position on have P, and none before it has
pub record IsStartIn {N S : Type 0} (entries : N → List Entry) (rank : N → S → ℕ) (IsPosition : N → S → Type 0) (nodes : List N) (P : Entry → Type 0) (position : TreePosition S) : Type 0 where
  pub in_range : IsPositionIn IsPosition nodes position
  pub start : IsStart (all entries nodes) P (rank_in entries rank nodes position)

-- after a node was split if it was full: the same entries, and one more part may come where the position is
pub record IsOpened {N S : Type 0} (entries : N → List Entry) (size : N → ℕ) (rank : N → S → ℕ) (IsPosition : N → S → Type 0) (old new : List N) (was is : TreePosition S) : Type 0 where
  pub same : all entries new ≡ all entries old
  pub before : rank_in entries rank new is ≡ rank_in entries rank old was
  pub room : IsSomeAnd (slice_get new is.node) (λ n. (size n < MOST_PARTS) × IsPosition n is.inner)

-- no node was taken of those that are set aside, nor a place in their list
pub record IsUnspent {B : Type 0} (HasLeft : B → Count → Type 0) (room room' spare spare' : Count) (left left' : B) : Type 0 where
  pub in_list : room ≤ room'
  pub nodes : spare ≤ spare'
  pub below : (k : ℕ) → HasLeft left k → HasLeft left' k

-- what is there is enough for so many inserts, and they can be counted
abbrev pub AreKept : {B : Type 0} → (HasLeft : B → Count → Type 0) → (room spare : Count) → B → (count promised : Count) → Type 0
AreKept HasLeft room spare left count promised = (promised ≤ room) × (promised ≤ spare) × HasLeft left promised × (count + promised < 2 ^ 64)

-- enough nodes for so many inserts, those below them too
abbrev pub AreLeft : {B : Type 0} → (HasLeft : B → Count → Type 0) → (count : Count) → B → (k : Count) → Type 0
AreLeft HasLeft count below k = (k ≤ count) × HasLeft below k

-- a place for a node that is emptied, and for those below it
abbrev pub HavePlaces : {B : Type 0} → (B → Type 0) → ℕ → B → Type 0
HavePlaces HasPlaces capacity below = (1 ≤ capacity) × HasPlaces below

-- none of the nodes that are set aside goes, nor a place for one
pub record KeepsSpares {B : Type 0} (HasLeft : B → Count → Type 0) (HasPlaces HasReserve : B → Type 0) (count count' capacity capacity' : Count) (below below' : B) : Type 0 where
  pub nodes : count ≤ count'
  pub left : (k : ℕ) → HasLeft below k → HasLeft below' k
  pub list : capacity ≤ capacity'
  pub places : HasPlaces below → HasPlaces below'
  pub reserve : HasReserve below → HasReserve below'
