-- A change of all indexes, one after another by their numbers.
use Rattle.std.proofs.Common.{◌≡◌, ◌↔◌, ℕ, zero, suc, ◌+◌, ◌-◌, ◌<◌, ◌≤◌, true, inl, inr, ⊎_elim, Bor, List, [], ◌∷◌, length, get_or, set, Option, Some, None, IsSome, ℤ, pos, nat_abs, sym, ap, subst, refl, ◌∙◌, arith}
use Rattle.std.specs.Prelude.{is_some, option_copied}
use Rattle.std.specs.Option.{unwrap_or}
use Rattle.std.proofs.lemmas.List.Elements.{All-set, All-get_or}
use Rattle.std.proofs.lemmas.Bool.{cases_lt, cases_eq, true≢false}
use Rattle.std.proofs.lemmas.List.{get_or_default, get_or_past, get_or-set_same, get_or-set_other, length-set}
use Rattle.xid_circle.specs.declared.Tid.{Tid}
use Rattle.tuple_header.specs.declared.version.Row.{Row}
use Rattle.index_entries.specs.declared.entry.Entry.{Entry}
use Rattle.root_index.specs.declared.progress.Progress.{Progress}
use Rattle.root_index.specs.Pieces.{RemovesPiece}
use Rattle.index_entries.specs.Sets.{AddsEntry}
use Rattle.entry_columns.specs.Fits.{FitsLabel}
use Rattle.root_index.specs.View.{IndexView, room_in}
use Rattle.tuple_header.specs.IndexValue.{value_in}
use Rattle.table_indexes.specs.Indexes.{IndexesView, entries_of, entries_at, SameValues, index_entry_of, SameEntries, AddsAny, Enters, without_body, HasEntry, LacksEntry, IsByColumn, AreOfTheirKinds}

-- the index of a number in a list
abbrev pub listed : List (Option IndexView) → ℕ → Option IndexView
listed indexes n = get_or indexes n None

-- it is in use
abbrev pub IsListed : List (Option IndexView) → ℕ → Type 0
IsListed indexes n = IsSome (entries_of (listed indexes n))

abbrev pub listed_entries : List (Option IndexView) → ℕ → List Entry
listed_entries indexes n = unwrap_or (entries_of (listed indexes n)) []

-- the indexes up to a number were changed so, and the others are as they were
pub record Changed (P : ℕ → Option IndexView → Option IndexView → Type 0) (before after : List (Option IndexView)) (i : ℕ) : Type 0 where
  pub size : length after ≡ 5
  pub done : (n : ℕ) → n < i → P n (listed before n) (listed after n)
  pub rest : (n : ℕ) → i ≤ n → listed after n ≡ listed before n

pub changed-one : (P : ℕ → Option IndexView → Option IndexView → Type 0) (before after : List (Option IndexView)) (i : ℕ) (index : Option IndexView) → i < 5
    → Changed P before after i → P i (listed after i) index → Changed P before (set after i index) (i + 1)
changed-one P before after i index within changed new = record {
  size = length-set after i index ∙ changed.size;
  done = λ n lt. elim (cases_eq n i) [
    | inl same ↦ subst (λ k. P k (listed before k) (listed (set after i index) k)) (sym same)
        (subst (λ o. P i (listed before i) o) (sym (get_or-set_same after i index None (omega (arith, within, changed.size))))
        (subst (λ o. P i o index) (changed.rest i (omega arith)) new))
    | inr other ↦ subst (λ o. P n (listed before n) o) (sym (get_or-set_other after i n index None other)) (changed.done n (omega (arith, lt, other)))
  ];
  rest = λ n le. get_or-set_other after i n index None (λ same. omega (arith, le, same)) ∙ changed.rest n (omega (arith, le));
}

-- the same, of an index by column
pub changed-column : (P : ℕ → Option IndexView → Option IndexView → Type 0) (before cols : List (Option IndexView)) (key index : Option IndexView) (c : ℕ) → c < 4
    → Changed P before (key ∷ cols) (c + 1) → P (suc c) (get_or cols c None) index → Changed P before (key ∷ set cols c index) (c + 1 + 1)
changed-column P before cols key index c within changed new =
    let one : c + 1 ≡ suc c = omega arith in
    let next = changed-one P before (key ∷ cols) (c + 1) index (omega (arith, within)) changed
    (subst (λ n. P n (listed (key ∷ cols) n) index) (sym one) new) in
    subst (λ n. Changed P before (set (key ∷ cols) n index) (c + 1 + 1)) one next

-- the index by key was changed, and no other
pub changed-key : (P : ℕ → Option IndexView → Option IndexView → Type 0) (before cols : List (Option IndexView)) (key index : Option IndexView) → key ∷ cols ≡ before
    → length cols ≡ 4 → P 0 key index → Changed P before (index ∷ cols) 1
changed-key P before cols key index view_is size new = subst (λ v. Changed P v (index ∷ cols) 1) view_is (record {
  size = let long : length (index ∷ cols) ≡ suc (length cols) = refl in omega (arith, long, size);
  done = first;
  rest = others;
})
  where
    first : (n : ℕ) → n < 1 → P n (listed (key ∷ cols) n) (listed (index ∷ cols) n)
    first zero lt = new
    first (suc n) lt = absurd (omega arith)

    others : (n : ℕ) → 1 ≤ n → listed (index ∷ cols) n ≡ listed (key ∷ cols) n
    others zero le = absurd (omega arith)
    others (suc n) le = refl

-- a column that was read
pub column-at : (cols : List (Option IndexView)) (c : ℕ) (x : Option IndexView) → c < 4 → length cols ≡ 4 → get_or cols c x ≡ get_or cols c None
column-at cols c x within size = get_or_default cols c x None (omega (arith, within, size))

-- Each index stays of its kind.

pub key-changed : (key key' : IndexView) (cols : List (Option IndexView)) → AreOfTheirKinds key cols → key'.is_by_key ≡ key.is_by_key → AreOfTheirKinds key' cols
key-changed key key' cols are same = record { size = are.size; key = same ∙ are.key; columns = are.columns }

pub column-kind : (key : IndexView) (cols : List (Option IndexView)) (c : ℕ) (x : Option IndexView) → AreOfTheirKinds key cols → c < 4 → IsByColumn (get_or cols c x)
column-kind key cols c x are within = All-get_or IsByColumn cols c x (omega (arith, within, are.size)) are.columns

pub column-put : (key : IndexView) (cols : List (Option IndexView)) (c : ℕ) (index : Option IndexView) → AreOfTheirKinds key cols → IsByColumn index → AreOfTheirKinds key (set cols c index)
column-put key cols c index are kind = record {
  size = length-set cols c index ∙ are.size;
  key = are.key;
  columns = All-set IsByColumn cols c index kind are.columns;
}

pub column-changed : (key : IndexView) (cols : List (Option IndexView)) (c : ℕ) (x index : Option IndexView) → AreOfTheirKinds key cols → c < 4
    → (IsByColumn (get_or cols c x) → IsByColumn index) → AreOfTheirKinds key (set cols c index)
column-changed key cols c x index are within kept = column-put key cols c index are (kept (column-kind key cols c x are within))

size-after : (key : Option IndexView) (cols : List (Option IndexView)) → length (key ∷ cols) ≡ 5 → length cols ≡ 4
size-after key cols size = let long : length (key ∷ cols) ≡ suc (length cols) = refl in omega (arith, long, size)

-- Memory.

-- there is memory for the row's entry in the index, which has the entries that it had
pub record HasRoom (row : Row) (n : ℕ) (before after : Option IndexView) : Type 0 where
  pub room : HasEntry after (value_in n row) row.key
  pub same : entries_of after ≡ entries_of before

abbrev pub Reserved : Row → List (Option IndexView) → List (Option IndexView) → ℕ → Type 0
Reserved row before after i = Changed (HasRoom row) before after i

-- what an index takes of a row
pub value-without_body : (n : ℕ) (row : Row) → value_in n (without_body row.key row.cols) ≡ value_in n row
value-without_body zero row = refl
value-without_body (suc c) row = refl

pub reserved-key : (row : Row) (before cols : List (Option IndexView)) (key key' : IndexView) → Some key ∷ cols ≡ before → length cols ≡ 4 → key'.is_by_key ≡ true → 1 ≤ room_in key'
    → key'.entries ≡ key.entries → Reserved row before (Some key' ∷ cols) (0 + 1)
reserved-key row before cols key key' view_is size kind room same =
    changed-key (HasRoom row) before cols (Some key) (Some key') view_is size (record {
      room = (omega (arith, room), subst (λ k. FitsLabel k key'.is_narrow (pos row.key) row.key) (sym kind) refl);
      same = ap Some same;
    })

pub reserved-column : (row : Row) (before cols : List (Option IndexView)) (key x index : Option IndexView) (value : ℤ) (c : ℕ) → c < 4 → Reserved row before (key ∷ cols) (c + 1)
    → value ≡ value_in (suc c) row → HasEntry index value row.key → entries_of index ≡ entries_of (get_or cols c x) → Reserved row before (key ∷ set cols c index) (c + 1 + 1)
reserved-column row before cols key x index value c within reserved is room same =
    changed-column (HasRoom row) before cols key index c within reserved (record {
      room = subst (λ v. HasEntry index v row.key) is room;
      same = same ∙ ap entries_of (column-at cols c x within (size-after key cols reserved.size));
    })

-- one that lacks it lacked it before
pub reserved-lacks : (row : Row) (before cols : List (Option IndexView)) (key x : Option IndexView) (value : ℤ) (c : ℕ) → c < 4 → Reserved row before (key ∷ cols) (c + 1)
    → value ≡ value_in (suc c) row → LacksEntry (get_or cols c x) value row.key → (n : ℕ) × LacksEntry (listed before n) (value_in n row) row.key
reserved-lacks row before cols key x value c within reserved is lacks =
    let one : c + 1 ≡ suc c = omega arith in
    let found = subst (λ v. LacksEntry (get_or cols c x) v row.key) is lacks in
    let there = subst (λ o. LacksEntry o (value_in (suc c) row) row.key) (column-at cols c x within (size-after key cols reserved.size)) found in
    let kept = reserved.rest (c + 1) (omega arith) in (
      suc c,
      subst (λ o. LacksEntry o (value_in (suc c) row) row.key) (subst (λ n. listed (key ∷ cols) n ≡ listed before n) one kept) there,
    )

-- so far, and to the end
pub reserved-all : (row : Row) (before after : List (Option IndexView)) (i : ℕ) → Reserved row before after i → (n : ℕ) → entries_of (listed after n) ≡ entries_of (listed before n)
reserved-all row before after i reserved n = elim (cases_lt n i) [
  | inl lt ↦ (reserved.done n lt).same
  | inr past ↦ ap entries_of (reserved.rest n past)
]

-- and with one index more, whose entries are as they were
pub reserved-column-all : (row : Row) (before cols : List (Option IndexView)) (key x index : Option IndexView) (c : ℕ) → c < 4 → Reserved row before (key ∷ cols) (c + 1)
    → entries_of index ≡ entries_of (get_or cols c x) → (n : ℕ) → entries_of (listed (key ∷ set cols c index) n) ≡ entries_of (listed before n)
reserved-column-all row before cols key x index c within reserved same n =
    let kept = changed-column (λ n old new. entries_of new ≡ entries_of old) before cols key index c within
    (record { size = reserved.size; done = λ n lt. (reserved.done n lt).same; rest = reserved.rest })
    (same ∙ ap entries_of (column-at cols c x within (size-after key cols reserved.size))) in
    elim (cases_lt n (c + 1 + 1)) [
      | inl lt ↦ kept.done n lt
      | inr past ↦ ap entries_of (kept.rest n past)
    ]

-- Entries.

abbrev pub Entered : Row → Tid → List (Option IndexView) → List (Option IndexView) → ℕ → Type 0
Entered row place before after i = Changed (λ n old new. AddsAny (entries_of old) (entries_of new) (index_entry_of n row place)) before after i

pub entered-key : (row : Row) (place : Tid) (before cols : List (Option IndexView)) (key key' : IndexView) (value read : ℤ) → Some key ∷ cols ≡ before → length cols ≡ 4
    → value ≡ value_in 0 row → read ≡ value → AddsEntry key.entries key'.entries (record { value = read; key = row.key; tid = place }) → Entered row place before (Some key' ∷ cols) (0 + 1)
entered-key row place before cols key key' value read view_is size is same adds =
    changed-key (λ n old new. AddsAny (entries_of old) (entries_of new) (index_entry_of n row place)) before cols (Some key) (Some key') view_is size
    (subst (λ v. AddsEntry key.entries key'.entries (record { value = v; key = row.key; tid = place })) (same ∙ is) adds)

pub entered-column : (row : Row) (place : Tid) (before cols : List (Option IndexView)) (key x index : Option IndexView) (value read : ℤ) (c : ℕ) → c < 4
    → Entered row place before (key ∷ cols) (c + 1) → value ≡ value_in (c + 1) row → read ≡ value
    → AddsAny (entries_of (get_or cols c x)) (entries_of index) (record { value = read; key = row.key; tid = place })
    → Entered row place before (key ∷ set cols c index) (c + 1 + 1)
entered-column row place before cols key x index value read c within entered is same adds =
    let one : c + 1 ≡ suc c = omega arith in
    let P : ℕ → Option IndexView → Option IndexView → Type 0 = λ n old new. AddsAny (entries_of old) (entries_of new) (index_entry_of n row place) in
    changed-column P before cols key index c within entered
    (subst (λ o. P (suc c) o index) (column-at cols c x within (size-after key cols entered.size))
    (subst (λ n. P n (get_or cols c x) index) one
    (subst (λ v. AddsAny (entries_of (get_or cols c x)) (entries_of index) (record { value = v; key = row.key; tid = place })) (same ∙ is) adds)))

-- all have it
pub entered-all : (row : Row) (place : Tid) (before after : List (Option IndexView)) (i : ℕ) → 5 ≤ i → Entered row place before after i
    → (n : ℕ) → AddsAny (entries_of (listed before n)) (entries_of (listed after n)) (index_entry_of n row place)
entered-all row place before after i most entered n = elim (cases_lt n i) [
  | inl lt ↦ entered.done n lt
  | inr past ↦
      let none : listed after n ≡ None = get_or_past after n None (omega (arith, past, most, entered.size)) in
      subst (λ o. AddsAny (entries_of o) (entries_of (listed after n)) (index_entry_of n row place)) (sym none ∙ entered.rest n past) (ap entries_of none)
]

-- there is memory for the entry of the next one
pub entered-room : (row : Row) (place : Tid) (before cols : List (Option IndexView)) (key x : Option IndexView) (value read : ℤ) (c : ℕ) → c < 4
    → ((n : ℕ) → HasEntry (listed before n) (value_in n row) row.key) → Entered row place before (key ∷ cols) (c + 1) → value ≡ value_in (c + 1) row → read ≡ value
    → HasEntry (get_or cols c x) read row.key
entered-room row place before cols key x value read c within room entered is same =
    let one : c + 1 ≡ suc c = omega arith in
    let there = subst (λ o. HasEntry o (value_in (c + 1) row) row.key) (sym (entered.rest (c + 1) (omega arith))) (room (c + 1)) in
    subst (λ v. HasEntry (get_or cols c x) v row.key) (sym (same ∙ is))
    (subst (λ o. HasEntry o (value_in (c + 1) row) row.key) (sym (column-at cols c x within (size-after key cols entered.size)))
    (subst (λ n. HasEntry (listed (key ∷ cols) n) (value_in (c + 1) row) row.key) one there))

-- Where there is more memory.

pub entries-then : (a b c : IndexesView) → SameEntries a b → SameEntries b c → SameEntries a c
entries-then a b c first second = record { entries = λ n. second.entries n ∙ first.entries n; since = λ n. second.since n ∙ first.since n }

pub enters-grown : (a b c : IndexesView) (row : Row) (place : Tid) → SameEntries a b → Enters b c row place → Enters a c row place
enters-grown a b c row place same enters = record {
  adds = λ n. subst (λ o. AddsAny o (entries_at c n) (index_entry_of n row place)) (same.entries n) (enters.adds n);
  since = λ n. enters.since n ∙ same.since n;
}

pub values-grown : (a b : IndexesView) (old new : Row) → SameEntries a b → SameValues a old new → SameValues b old new
values-grown a b old new same values n in_use = values n (subst IsSome (same.entries n) in_use)

-- Values.

-- two rows have the same value in each index in use by one of the first columns
abbrev pub AgreeUpTo : List (Option IndexView) → Row → Row → ℕ → Type 0
AgreeUpTo indexes old new i = (c : ℕ) → c < i → IsListed indexes (suc c) → value_in (suc c) new ≡ value_in (suc c) old

some-entries : (o : Option IndexView) → is_some o ≡ true → IsSome (entries_of o)
some-entries (Some index) h = refl
some-entries None h = h

pub column-in_use : (indexes cols : List (Option IndexView)) (key x : Option IndexView) (c : ℕ) → key ∷ cols ≡ indexes → length cols ≡ 4 → c < 4
    → is_some (get_or cols c x) ≡ true → IsListed indexes (suc c)
column-in_use indexes cols key x c view_is size within is =
    subst (λ v. IsListed v (suc c)) view_is (subst (λ o. IsSome (entries_of o)) (column-at cols c x within size) (some-entries (get_or cols c x) is))

pub same-all : (indexes cols : List (Option IndexView)) (key : Option IndexView) (old new : Row) (i : ℕ) → key ∷ cols ≡ indexes → length cols ≡ 4 → 4 ≤ i
    → AgreeUpTo indexes old new i → old.key ≡ new.key → ((n : ℕ) → IsListed indexes n → value_in n new ≡ value_in n old)
same-all indexes cols key old new i view_is size all agree same zero in_use = ap pos (sym same)
same-all indexes cols key old new i view_is size all agree same (suc c) in_use =
    elim (cases_lt c 4) [
      | inl lt ↦ agree c (omega (arith, lt, all)) in_use
      | inr past ↦ absurd (true≢false (sym in_use ∙ ap (λ o. is_some (entries_of o)) (sym (ap (λ v. listed v (suc c)) view_is) ∙ get_or_past cols c None (omega (arith, past, size)))))
    ]

pub same-key : (indexes cols : List (Option IndexView)) (key : IndexView) (old new : Row) → Some key ∷ cols ≡ indexes → ((n : ℕ) → IsListed indexes n → value_in n new ≡ value_in n old) → old.key ≡ new.key
same-key indexes cols key old new view_is same =
    let e : pos new.key ≡ pos old.key = same 0 (subst (λ v. IsListed v 0) view_is refl) in ap nat_abs (sym e)

-- An index that is found, and one of which a piece is gone through.

pub index-in_use : (indexes : List (Option IndexView)) (n : ℕ) (found : Option (Bor IndexView)) → option_copied found ≡ listed indexes n → is_some found ≡ true → IsListed indexes n
index-in_use indexes n None e some = absurd (true≢false (sym some))
index-in_use indexes n (Some index) e some = subst (λ o. IsSome (entries_of o)) e (some-entries (Some index.now) refl)

pub few-in_use : (before cols : List (Option IndexView)) (key : Option IndexView) (n : ℕ) → key ∷ cols ≡ before → length cols ≡ 4 → IsListed before n → n < 5
few-in_use before cols key n view_is size used = ⊎_elim
    (λ below. below)
    (λ past. absurd (not-past (listed before n) (get_or_past before n None (omega (arith, past, size, ap length view_is))) used))
    (cases_lt n 5)
  where
    not-past : (o : Option IndexView) → o ≡ None → ¬ IsSome (entries_of o)
    not-past None none some = true≢false (sym some)
    not-past (Some x) none some = absurd (let e : Some x ≡ None = none in cc)

pub swept-column : (before cols : List (Option IndexView)) (key old new : Option IndexView) (dead : List Tid) (from : Option Entry) (progress : Progress) (n : ℕ) → key ∷ cols ≡ before → 1 ≤ n
    → n - 1 < length cols → RemovesPiece (unwrap_or (entries_of (get_or cols (n - 1) old)) []) (unwrap_or (entries_of new) []) dead from progress
    → RemovesPiece (listed_entries before n) (listed_entries (key ∷ set cols (n - 1) new) n) dead from progress
swept-column before cols key old new dead from progress n view_is some within removes =
    let one : suc (n - 1) ≡ n = omega (arith, some) in
    subst (λ m. RemovesPiece (listed_entries before m) (listed_entries (key ∷ set cols (n - 1) new) m) dead from progress) one
    (subst (λ v. RemovesPiece (listed_entries v (suc (n - 1))) (listed_entries (key ∷ set cols (n - 1) new) (suc (n - 1))) dead from progress) view_is
    (subst (λ o. RemovesPiece (unwrap_or (entries_of (get_or cols (n - 1) None)) []) (unwrap_or (entries_of o) []) dead from progress) (sym (get_or-set_same cols (n - 1) new None within))
    (subst (λ o. RemovesPiece (unwrap_or (entries_of o) []) (unwrap_or (entries_of new) []) dead from progress) (get_or_default cols (n - 1) old None within) removes)))

pub swept-in_use : (before cols : List (Option IndexView)) (key new : Option IndexView) (n : ℕ) → key ∷ cols ≡ before → 1 ≤ n → n - 1 < length cols → IsListed before n
    → IsSome (entries_of new) → (m : ℕ) → IsListed before m ↔ IsListed (key ∷ set cols (n - 1) new) m
swept-in_use before cols key new n view_is some within used is m = subst (λ v. IsListed v m ↔ IsListed (key ∷ set cols (n - 1) new) m) view_is (here m)
  where
    here : (m : ℕ) → IsListed (key ∷ cols) m ↔ IsListed (key ∷ set cols (n - 1) new) m
    here zero = (λ h. h, λ h. h)
    here (suc k) = elim (cases_eq k (n - 1)) [
      | inl same ↦
          let number : n ≡ suc k = omega (arith, same, some) in (
            λ _. subst (λ j. IsSome (entries_of (get_or (set cols (n - 1) new) j None))) (sym same) (subst (λ o. IsSome (entries_of o)) (sym (get_or-set_same cols (n - 1) new None within)) is),
            λ _. subst (λ j. IsListed (key ∷ cols) j) number (subst (λ v. IsListed v n) (sym view_is) used),
          )
      | inr other ↦
          let e = get_or-set_other cols (n - 1) k new None other in
          (λ h. subst (λ o. IsSome (entries_of o)) (sym e) h, λ h. subst (λ o. IsSome (entries_of o)) e h)
    ]
