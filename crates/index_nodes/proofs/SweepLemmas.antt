-- What a sweep does in a node among others.
use Rattle.std.proofs.Common.{◌≡◌, ◌∙◌, ℕ, zero, suc, ◌+◌, ◌<◌, ◌≤◌, ◌⊎◌, inl, inr, ⊎_elim, ◌↔◌, List, [], ◌∷◌, ◌++◌, length, take, drop, map, get_or, Bool, true, Option, Some, None, slice_get, slice_set, IfSome, IfNone, ◌≢◌, sym, ap, refl, subst, arith}
use Rattle.std.specs.List.{filter, remove}
use Rattle.std.proofs.lemmas.Bool.{cases_lt, cases_eq}
use Rattle.std.proofs.lemmas.List.{append_assoc, length-append, take_all, drop_all}
use Rattle.std.proofs.lemmas.List.Edits.{length-remove, get_or-remove_below, get_or-remove_above}
use Rattle.std.proofs.lemmas.Option.{slice_get-get_or, slice_get_within, get_or_from_slice_get}
use Rattle.xid_circle.specs.declared.Tid.{Tid}
use Rattle.index_entries.specs.declared.entry.Entry.{Entry}
use Rattle.index_entries.specs.declared.node.Swept.{Swept}
use Rattle.index_nodes.specs.declared.nodes.TreePosition.{TreePosition}
use Rattle.index_entries.specs.Lists.{concatenated, stays}
use Rattle.index_nodes.specs.Nodes.{all, rank_in, before_node, AreNeat, AreNeatBut, IsPositionIn, IsBehindIn}
use Rattle.index_nodes.specs.Rows.{inner_is, some_with}
use Rattle.index_entries.specs.Sweeps.{IsSwept}
use Rattle.index_nodes.proofs.RowLemmas.{count_next, length-lists}

-- A node among others.

slice_get_past_not : {X : Type 0} (xs : List X) (i : ℕ) → i < length xs → ¬ (slice_get xs i ≡ None)
slice_get_past_not [] i within none = absurd (omega arith)
slice_get_past_not (x ∷ xs) zero within none = absurd (cc none)
slice_get_past_not (x ∷ xs) (suc i) within none = slice_get_past_not xs i (omega arith) none

-- the entries of the nodes behind that of this number
abbrev pub behind_node : {N : Type 0} → (N → List Entry) → List N → ℕ → List Entry
behind_node entries nodes i = concatenated (drop (suc i) (map entries nodes))

abbrev pub entries_before : {N : Type 0} → (N → List Entry) → List N → ℕ → List Entry
entries_before entries nodes i = concatenated (take i (map entries nodes))

module _ {N : Type 0} (entries : N → List Entry) where
  pub around : (nodes : List N) (i : ℕ) (n : N) → slice_get nodes i ≡ Some n
      → all entries nodes ≡ entries_before entries nodes i ++ (entries n ++ behind_node entries nodes i)
  around [] i n at = absurd (cc at)
  around (m ∷ nodes) zero n at = let same : m ≡ n = cc at in ap (λ m. entries m ++ all entries nodes) same
  around (m ∷ nodes) (suc i) n at =
      ap (λ r. entries m ++ r) (around nodes i n at)
      ∙ sym (append_assoc (entries m) (entries_before entries nodes i) (entries n ++ behind_node entries nodes i))

  pub around_set : (nodes : List N) (i : ℕ) (n : N) → i < length nodes
      → all entries (slice_set nodes i n) ≡ entries_before entries nodes i ++ (entries n ++ behind_node entries nodes i)
  around_set [] i n within = absurd (omega arith)
  around_set (m ∷ nodes) zero n within = refl
  around_set (m ∷ nodes) (suc i) n within =
      ap (λ r. entries m ++ r) (around_set nodes i n (omega arith))
      ∙ sym (append_assoc (entries m) (entries_before entries nodes i) (entries n ++ behind_node entries nodes i))

  pub none_removed : (nodes : List N) (i : ℕ) (n : N) → slice_get nodes i ≡ Some n → entries n ≡ [] → all entries (remove nodes i) ≡ all entries nodes
  none_removed [] i n at none = absurd (cc at)
  none_removed (m ∷ nodes) zero n at none =
      let same : n ≡ m = cc at in
      ap (λ l. l ++ all entries nodes) (sym none ∙ ap entries same)
  none_removed (m ∷ nodes) (suc i) n at none = ap (λ r. entries m ++ r) (none_removed nodes i n at none)

  pub none_behind : (nodes : List N) (i : ℕ) → length nodes ≤ i + 1 → behind_node entries nodes i ≡ []
  none_behind nodes i past =
      let size = length-lists entries nodes in
      ap concatenated (drop_all (suc i) (map entries nodes) (omega arith))

  module _ (IsNeat : N → Type 0) (size : N → ℕ) where
    pub some_behind : ((n : N) → IsNeat n → 0 < size n → 0 < length (entries n)) → (nodes : List N) (i : ℕ) → AreNeat IsNeat size nodes → i + 1 < length nodes
        → 0 < length (behind_node entries nodes i)
    some_behind some [] i neat within = absurd (omega arith)
    some_behind some (m ∷ nodes) zero neat within = some_with entries IsNeat size some nodes (λ k d lt. neat (suc k) d (omega arith)) (omega arith)
    some_behind some (m ∷ nodes) (suc i) neat within = some_behind some nodes i (λ k d lt. neat (suc k) d (omega arith)) (omega arith)

-- what is swept in the middle is swept in all
pub swept_among : {S T : Type 0} (es es' prefix back : List Entry) (rank : ℕ) (dead : List Tid) (swept : Swept S) (now : Swept T) → IsSwept es es' rank dead swept
    → now.last ≡ swept.last → now.removed ≡ swept.removed → ((now.more ≡ true) ↔ ((swept.more ≡ true) ⊎ (0 < length back)))
    → IsSwept (prefix ++ (es ++ back)) (prefix ++ (es' ++ back)) (length prefix + rank) dead now
swept_among es es' prefix back rank dead swept now s last removed more = record {
  prefix = prefix ++ s.prefix;
  piece = s.piece;
  back = s.back ++ back;
  was = parted es s.piece s.was;
  is = parted es' (filter (stays dead) s.piece) s.is;
  begins = length-append prefix s.prefix ∙ ap (λ n. length prefix + n) s.begins;
  last = s.last ∙ ap Some (sym last);
  removed = ap (λ n. n + length (filter (stays dead) s.piece)) removed ∙ s.removed;
  more = (
    λ h. ⊎_elim (λ inner. omega (arith, whole, s.more.0 inner)) (λ outer. omega (arith, whole, outer)) (more.0 h),
    λ h. more.1 (elim (cases_lt 0 (length back)) [ inl some ↦ inr some | inr none ↦ inl (s.more.1 (omega (arith, whole, h, none))) ]),
  );
}
  where
    whole : length (s.back ++ back) ≡ length s.back + length back
    whole = length-append s.back back

    parted : (xs here : List Entry) → xs ≡ s.prefix ++ (here ++ s.back) → prefix ++ (xs ++ back) ≡ (prefix ++ s.prefix) ++ (here ++ (s.back ++ back))
    parted xs here is =
        ap (λ xs. prefix ++ (xs ++ back)) is
        ∙ ap (λ xs. prefix ++ xs) (append_assoc s.prefix (here ++ s.back) back ∙ ap (λ xs. s.prefix ++ xs) (append_assoc here s.back back))
        ∙ sym (append_assoc prefix s.prefix (here ++ (s.back ++ back)))

module _ {N S : Type 0} (entries : N → List Entry) (rank : N → S → ℕ) where
  pub rank_among : (nodes : List N) (position : TreePosition S) (n : N) → slice_get nodes position.node ≡ Some n
      → length (entries_before entries nodes position.node) + rank n position.inner ≡ rank_in entries rank nodes position
  rank_among nodes position n at = ap (λ k. before_node entries nodes position.node + k) (sym (inner_is rank nodes position n at))

  -- a node that was swept, and then taken out if it is empty
  pub swept_one : (IsNeat : N → Type 0) (size : N → ℕ) (some : (n : N) → IsNeat n → 0 < size n → 0 < length (entries n)) (nodes new : List N) (position : TreePosition S) (n m : N) (dead : List Tid)
      (swept : Swept S) (now : Swept (TreePosition S)) (others : Bool) → AreNeat IsNeat size nodes → slice_get nodes position.node ≡ Some n → IsSwept (entries n) (entries m) (rank n position.inner) dead swept
      → all entries new ≡ all entries (slice_set nodes position.node m) → now.last ≡ swept.last → now.removed ≡ swept.removed
      → ((now.more ≡ true) ↔ ((swept.more ≡ true) ⊎ (others ≡ true))) → ((others ≡ true) ↔ (position.node + 1 < length nodes))
      → IsSwept (all entries nodes) (all entries new) (rank_in entries rank nodes position) dead now
  swept_one IsNeat size some nodes new position n m dead swept now others neat at s same last removed more is_other =
      let i = position.node in
      let within = slice_get_within nodes i n at in
      let behind = behind_node entries nodes i in
      let there : (others ≡ true) ↔ (0 < length behind) = (
        λ h. some_behind entries IsNeat size some nodes i neat (is_other.0 h),
        λ h. elim (cases_lt (i + 1) (length nodes)) [
          | inl next ↦ is_other.1 next
          | inr last ↦ let none = ap length (none_behind entries nodes i (omega arith)) in absurd (omega (arith, none, h))
        ],
      ) in
      let whole : IsSwept (entries_before entries nodes i ++ (entries n ++ behind)) (entries_before entries nodes i ++ (entries m ++ behind))
      (length (entries_before entries nodes i) + rank n position.inner) dead now =
      swept_among (entries n) (entries m) (entries_before entries nodes i) behind (rank n position.inner) dead swept now s last removed (
        λ h. ⊎_elim (λ inner. inl inner) (λ outer. inr (there.0 outer)) (more.0 h),
        λ h. more.1 (⊎_elim (λ inner. inl inner) (λ outer. inr (there.1 outer)) h),
      ) in
      subst (λ (xs : List Entry). IsSwept xs (all entries new) (rank_in entries rank nodes position) dead now) (sym (around entries nodes i n at))
      (subst (λ (xs : List Entry). IsSwept (entries_before entries nodes i ++ (entries n ++ behind)) xs (rank_in entries rank nodes position) dead now)
      (sym (same ∙ around_set entries nodes i m within))
      (subst (λ k. IsSwept (entries_before entries nodes i ++ (entries n ++ behind)) (entries_before entries nodes i ++ (entries m ++ behind)) k dead now) (rank_among nodes position n at) whole))

  -- behind all of a node is before the next one
  pub rank_next : (IsPosition : N → S → Type 0) (within : (n : N) (s : S) → IsPosition n s → rank n s ≤ length (entries n)) (nodes : List N) (position : TreePosition S) → position.node < length nodes
      → IsPositionIn IsPosition nodes position → IsBehindIn entries rank nodes position → before_node entries nodes (position.node + 1) ≡ rank_in entries rank nodes position
  rank_next IsPosition within nodes position there in_range behind = by_node (slice_get nodes position.node) refl
    where
      by_node : (o : Option N) → slice_get nodes position.node ≡ o → before_node entries nodes (position.node + 1) ≡ rank_in entries rank nodes position
      by_node None none = absurd (let n = slice_get_past_not nodes position.node there in n none)
      by_node (Some n) at =
          let inner : IsPosition n position.inner = subst (λ (o : Option N). IfSome o (λ n. IsPosition n position.inner)) at in_range.inner in
          let past : length (entries n) ≤ rank n position.inner = subst (λ (o : Option N). IfSome o (λ n. length (entries n) ≤ rank n position.inner)) at behind in
          let next = count_next entries nodes position.node n at in
          let here = rank_among nodes position n at in
          omega (arith, within n position.inner inner, past, next, here)

  pub behind_in : (nodes : List N) (position : TreePosition S) (n : N) → slice_get nodes position.node ≡ Some n → length (entries n) ≤ rank n position.inner → IsBehindIn entries rank nodes position
  behind_in nodes position n at past = subst (λ (o : Option N). IfSome o (λ n. length (entries n) ≤ rank n position.inner)) (sym at) past

  -- the next node is swept where nothing follows in the first
  pub swept_next : (nodes there : List N) (new : List Entry) (position : TreePosition S) (dead : List Tid) (result : Option (Swept (TreePosition S))) → there ≡ nodes
      → before_node entries nodes (position.node + 1) ≡ rank_in entries rank nodes position
      → IfSome result (IsSwept (all entries there) new (before_node entries there (position.node + 1)) dead)
      → IfSome result (IsSwept (all entries nodes) new (rank_in entries rank nodes position) dead)
  swept_next nodes there new position dead result same next swept =
      subst (λ k. IfSome result (IsSwept (all entries nodes) new k dead)) next
      (subst (λ (ns : List N). IfSome result (IsSwept (all entries ns) new (before_node entries ns (position.node + 1)) dead)) same swept)

  pub past_all : (nodes there : List N) (position : TreePosition S) → there ≡ nodes → before_node entries nodes (position.node + 1) ≡ rank_in entries rank nodes position
      → length there ≤ position.node + 1 → length (all entries nodes) ≤ rank_in entries rank nodes position
  past_all nodes there position same next past =
      let size = length-lists entries nodes in
      let long : length there ≡ length nodes = ap length same in
      let end : before_node entries nodes (position.node + 1) ≡ length (all entries nodes) =
      ap (λ ls. length (concatenated ls)) (take_all (position.node + 1) (map entries nodes) (omega arith)) in
      omega (arith, end, next)

pub none_weaker : {T : Type 0} {P Q : Type 0} (result : Option T) → (P → Q) → IfNone result P → IfNone result Q
none_weaker None f h = f h
none_weaker (Some t) f h = h

-- A node that is taken out where it is empty.

module _ {N : Type 0} (IsNeat : N → Type 0) (size : N → ℕ) (nodes : List N) (i : ℕ) (within : i < length nodes) (neat : AreNeatBut IsNeat size nodes i) where
  other : (k : ℕ) (d : N) → k < length nodes → k ≢ i → IsNeat (get_or nodes k d) × (0 < size (get_or nodes k d))
  other k d inside apart =
      let here = neat k (get_or nodes k d) (slice_get-get_or nodes k d inside) in
      (here.0, here.1 apart)

  pub neat_removed : AreNeat IsNeat size (remove nodes i)
  neat_removed k d inside =
      let long = length-remove nodes i within in
      elim (cases_lt k i) [
        | inl below ↦ subst (λ n. IsNeat n × (0 < size n)) (sym (get_or-remove_below nodes i d k below within)) (other k d (omega arith) (λ e. omega (arith, e, below)))
        | inr above ↦ subst (λ n. IsNeat n × (0 < size n)) (sym (get_or-remove_above nodes i d k above within)) (other (k + 1) d (omega (arith, inside, long)) (λ e. omega (arith, e, above)))
      ]

  pub neat_filled : (n : N) → slice_get nodes i ≡ Some n → 0 < size n → AreNeat IsNeat size nodes
  neat_filled n at some k d inside = elim (cases_eq k i) [
    | inl same ↦
        let here = neat k (get_or nodes k d) (slice_get-get_or nodes k d inside) in
        let is : n ≡ get_or nodes k d = sym (get_or_from_slice_get nodes i n d at) ∙ ap (λ j. get_or nodes j d) (sym same) in
        (here.0, subst (λ n. 0 < size n) is some)
    | inr apart ↦ other k d inside apart
  ]
