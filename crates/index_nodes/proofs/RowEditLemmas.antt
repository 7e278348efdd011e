-- What a change of nodes does to all entries: halves of a branch.
use Rattle.std.proofs.Common.{◌≡◌, ◌∙◌, ℕ, zero, suc, ◌+◌, ◌-◌, ◌<◌, ◌≤◌, Option, List, [], ◌∷◌, ◌++◌, length, map, take, slice_get, IfSome, sym, ap, refl, subst, arith}
use Rattle.std.specs.List.{All}
use Rattle.std.proofs.lemmas.List.{length-append, take-append-le, map-append}
use Rattle.std.proofs.lemmas.List.Elements.{All-tail}
use Rattle.index_entries.specs.declared.entry.Entry.{Entry}
use Rattle.index_entries.specs.declared.node.Half.{Half}
use Rattle.index_entries.specs.declared.node.Half.TheVariants.{Lower, Upper}
use Rattle.index_nodes.specs.declared.nodes.TreePosition.{TreePosition}
use Rattle.index_entries.specs.Halves.{IsHalf, rank_half}
use Rattle.index_entries.specs.Lists.{concatenated}
use Rattle.index_nodes.specs.Nodes.{all, inner_rank, rank_in, IsPositionIn}
use Rattle.index_nodes.proofs.JoinedLemmas.{start}
use Rattle.index_nodes.proofs.RowLemmas.{length-lists}

-- Two rows of nodes, one behind the other.

pub all_back : {X : Type 0} (P : X → Type 0) (xs ys : List X) → All P (xs ++ ys) → All P ys
all_back P [] ys holds = holds
all_back P (x ∷ xs) ys holds = all_back P xs ys (All-tail P x (xs ++ ys) holds)

pub get_front : {X : Type 0} (xs ys : List X) (i : ℕ) → i < length xs → slice_get (xs ++ ys) i ≡ slice_get xs i
get_front [] ys i within = absurd (omega arith)
get_front (x ∷ xs) ys zero within = refl
get_front (x ∷ xs) ys (suc i) within = get_front xs ys i (omega arith)

pub get_behind : {X : Type 0} (xs ys : List X) (k : ℕ) → slice_get (xs ++ ys) (length xs + k) ≡ slice_get ys k
get_behind [] ys k = let is : 0 + k ≡ k = omega arith in ap (slice_get ys) is
get_behind (x ∷ xs) ys k =
    let next : suc (length xs) + k ≡ suc (length xs + k) = omega arith in
    ap (slice_get (x ∷ (xs ++ ys))) next ∙ get_behind xs ys k

get_back : {X : Type 0} (xs ys : List X) (i n : ℕ) → length xs ≡ n → n ≤ i → slice_get (xs ++ ys) i ≡ slice_get ys (i - n)
get_back xs ys i n size past =
    let is : i ≡ length xs + (i - n) = omega arith in
    ap (slice_get (xs ++ ys)) is ∙ get_behind xs ys (i - n)

start_behind : (l u : List (List Entry)) (i : ℕ) → start (l ++ u) (length l + i) ≡ length (concatenated l) + start u i
start_behind [] u i =
    let same : 0 + i ≡ i = omega arith in
    let whole : start u (0 + i) ≡ start u i = ap (start u) same in
    omega arith
start_behind (m ∷ l) u i =
    let size = length-append m (concatenated l) in
    let next : suc (length l) + i ≡ suc (length l + i) = omega arith in
    let whole : start (m ∷ (l ++ u)) (suc (length l) + i) ≡ length m + start (l ++ u) (length l + i) =
    ap (start (m ∷ (l ++ u))) next ∙ length-append m (concatenated (take (length l + i) (l ++ u))) in
    let rest = start_behind l u i in
    omega arith

module _ {N S : Type 0} (entries : N → List Entry) (rank : N → S → ℕ) (l u : List N) (node : ℕ) (inner : S) where
  pub rank_front : node < length l → rank_in entries rank (l ++ u) (record { node = node; inner = inner }) ≡ rank_in entries rank l (record { node = node; inner = inner })
  rank_front within =
      let size = length-lists entries l in
      let prefix : start (map entries (l ++ u)) node ≡ start (map entries l) node =
      ap (λ ls. start ls node) (map-append entries l u) ∙ ap (λ ls. length (concatenated ls)) (take-append-le node (map entries l) (map entries u) (omega arith)) in
      let here : inner_rank rank (slice_get (l ++ u) node) inner ≡ inner_rank rank (slice_get l node) inner = ap (λ o. inner_rank rank o inner) (get_front l u node within) in
      omega arith

  pub rank_back : (n : ℕ) → length l ≡ n → n ≤ node
      → rank_in entries rank (l ++ u) (record { node = node; inner = inner }) ≡ length (all entries l) + rank_in entries rank u (record { node = node - n; inner = inner })
  rank_back n size past =
      let long = length-lists entries l in
      let is : node ≡ length (map entries l) + (node - n) = omega arith in
      let prefix : start (map entries (l ++ u)) node ≡ length (concatenated (map entries l)) + start (map entries u) (node - n) =
      ap (λ ls. start ls node) (map-append entries l u) ∙ ap (start (map entries l ++ map entries u)) is ∙ start_behind (map entries l) (map entries u) (node - n) in
      let here : inner_rank rank (slice_get (l ++ u) node) inner ≡ inner_rank rank (slice_get u (node - n)) inner = ap (λ o. inner_rank rank o inner) (get_back l u node n size past) in
      omega arith

module _ {N S : Type 0} (IsPosition : N → S → Type 0) (l u : List N) (node : ℕ) (inner : S) (in_range : IsPositionIn IsPosition (l ++ u) (record { node = node; inner = inner })) where
  pub position_front : node < length l → IsPositionIn IsPosition l (record { node = node; inner = inner })
  position_front within = record {
    node = λ some. within;
    inner = subst (λ (o : Option N). IfSome o (λ n. IsPosition n inner)) (get_front l u node within) in_range.inner;
  }

  pub position_back : (n : ℕ) → length l ≡ n → n ≤ node → IsPositionIn IsPosition u (record { node = node - n; inner = inner })
  position_back n size past =
      let whole = length-append l u in
      record {
        node = λ some. let within = in_range.node (omega (arith, some)) in omega (arith, within);
        inner = subst (λ (o : Option N). IfSome o (λ n. IsPosition n inner)) (get_back l u node n size past) in_range.inner;
      }

-- where a position is in the halves of a branch
module _ {N S : Type 0} (entries : N → List Entry) (rank : N → S → ℕ) (IsPosition : N → S → Type 0) (l u whole : List N) (position : TreePosition S) (result : Half (TreePosition S)) (is : l ++ u ≡ whole) where
  pub half_front : result ≡ Lower position → IsPositionIn IsPosition whole position → position.node < length l → IsHalf (λ b s. IsPositionIn IsPosition b s) l u result
  half_front lower in_range within =
      let there = subst (λ (b : List N). IsPositionIn IsPosition b position) (sym is) in_range in
      subst (IsHalf (λ b s. IsPositionIn IsPosition b s) l u) (sym lower) (position_front IsPosition l u position.node position.inner there within)

  pub half_back : (n : ℕ) → result ≡ Upper (record { node = position.node - n; inner = position.inner }) → IsPositionIn IsPosition whole position → length l ≡ n → n ≤ position.node
      → IsHalf (λ b s. IsPositionIn IsPosition b s) l u result
  half_back n upper in_range size past =
      let there = subst (λ (b : List N). IsPositionIn IsPosition b position) (sym is) in_range in
      subst (IsHalf (λ b s. IsPositionIn IsPosition b s) l u) (sym upper) (position_back IsPosition l u position.node position.inner there n size past)

  pub rank_half_front : result ≡ Lower position → position.node < length l → rank_half (λ b. all entries b) (λ b s. rank_in entries rank b s) l u result ≡ rank_in entries rank whole position
  rank_half_front lower within =
      ap (rank_half (λ b. all entries b) (λ b s. rank_in entries rank b s) l u) lower
      ∙ sym (rank_front entries rank l u position.node position.inner within)
      ∙ ap (λ (b : List N). rank_in entries rank b position) is

  pub rank_half_back : (n : ℕ) → result ≡ Upper (record { node = position.node - n; inner = position.inner }) → length l ≡ n → n ≤ position.node
      → rank_half (λ b. all entries b) (λ b s. rank_in entries rank b s) l u result ≡ rank_in entries rank whole position
  rank_half_back n upper size past =
      ap (rank_half (λ b. all entries b) (λ b s. rank_in entries rank b s) l u) upper
      ∙ sym (rank_back entries rank l u position.node position.inner n size past)
      ∙ ap (λ (b : List N). rank_in entries rank b position) is
