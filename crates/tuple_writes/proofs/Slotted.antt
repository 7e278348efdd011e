-- The slots after each write, and what holds of them.
use Rattle.std.proofs.Common.{◌≡◌, ◌≢◌, ◌⊎◌, ◌≤◌, ◌+◌, ℕ, Bool, true, false, List, length, Some, IsSome, if◌then◌else◌, arith, inl, inr, ⊎_elim, sym, ap, ◌∙◌, refl, subst}
use Rattle.std.proofs.lemmas.Bool.{cases_eq, cases_Bool, ne_eqb}
use Rattle.std.proofs.lemmas.Option.{same_Some}
use Rattle.page_sheet.specs.declared.slot.Slot.{Slot}
use Rattle.page_sheet.specs.declared.slot.Slot.TheVariants.{Normal}
use Rattle.page_sheet.specs.Slots.{slot_at, version_at, the_slot, with_added, has_unused, free_number}
use Rattle.page_sheet.proofs.SlotLemmas.{there-from_slot_at, slot_at-from_version_at, the_slot-from_slot_at, slot_at-with_slot, slot_at-with_slot_other, length-with_slot, free_number-new, free_number-was, length-with_added, slot_at-with_added, slot_at-with_added_other, free_number-not_normal, version_at-from_slot_at}
use Rattle.tuple_header.specs.Version.{Version}
use Rattle.tuple_header.specs.declared.version.Row.{Row}
use Rattle.tuple_header.specs.Marks.{is_heap_only}
use Rattle.commit_status.specs.Window.{Window, IsActive, place}
use Rattle.hot_chain.specs.Chain.{has_aborted, is_aborted}
use Rattle.sound_page.specs.Links.{link}
use Rattle.sound_page.specs.Sound.{IsIn, SoundPage}
use Rattle.sound_page.proofs.Links.{successor-from}
use Rattle.tuple_writes.specs.Headers.{replaced_header, root_header, heap_only_header}
use Rattle.tuple_writes.specs.Writes.{replaced_slot, with_replaced, with_root, with_updated}
use Rattle.tuple_writes.specs.Keeps.{IsDeletable, NoNew, NewRoot, NewIn}
use Rattle.tuple_writes.specs.Laws.{AddsRoot, SetsXmaxOnPage, HotUpdatesPage}
use Rattle.tuple_writes.proofs.Bits.{replaced-hot, replaced-heap_only, replaced-frozen, root-plain, root-thawed}
use Rattle.tuple_writes.proofs.Growth.{IsWrite, IsInBy, none-some, entry-normal, in-forth, in-on, in-back, write-sound, write-entries}
use Rattle.tuple_writes.proofs.Changing.{change-write}
use Rattle.tuple_writes.proofs.Placing.{Adds, Takes, Replaces, IsTaken, LeadsOn, adding, taking, replacing, version-as}

few-added : (slots : List Slot) (s : Slot) → length slots ≤ 291 → free_number slots ≤ 291 → length (with_added slots s) ≤ 291
few-added slots s few place =
    ⊎_elim (λ some. let e = length-with_added slots s ∙ ap (λ b. if b then length slots else length slots + 1) some in omega arith)
    (λ none. let e = length-with_added slots s ∙ ap (λ b. if b then length slots else length slots + 1) none in let new = free_number-new slots none in omega arith)
    (cases_Bool (has_unused slots))

-- A new version.

pub added : (slots : List Slot) (v : Version) → length slots ≤ 291 → free_number slots ≤ 291 → Adds slots (with_added slots (Normal v)) (free_number slots) v
added slots v few place = record {
  free = free_number-was slots;
  put = slot_at-with_added slots (Normal v);
  others = λ m other. slot_at-with_added_other slots m (Normal v) other;
  few = few-added slots (Normal v) few place;
}

one-in : (slots : List Slot) (m : ℕ) (t u : Version) → slot_at slots m ≡ Some (Normal t) → version_at slots m ≡ Some u → t ≡ u
one-in slots m t u here at = same_Some t u (sym (version_at-from_slot_at slots m t here) ∙ at)

both-ways : {P : Type 0} (t u : Version) → t ≡ u → is_heap_only t.header ≡ true → is_heap_only u.header ≡ false → P
both-ways t u one a b = absurd (let e : true ≡ false = sym a ∙ ap (λ (z : Version). is_heap_only z.header) one ∙ b in cc)

new-root : (w : Window) (slots after : List Slot) (k : ℕ) (v : Version) → Adds slots after k v → is_heap_only v.header ≡ false → IsWrite w slots after k k → NewRoot w slots after k
new-root w slots after k v a plain g = (
  record { entry = k; leads = entry-normal after k v (version_at-from_slot_at after k v a.put) plain; later = record { turns = 0; along = refl } },
  λ root m i. by root m (in-back w slots after k k root m g i),
)
  where
    by : (root m : ℕ) → IsInBy w slots after k k root m → IsIn w slots root m ⊎ ((root ≡ k) × (m ≡ k))
    by root m (IsInBy.before x) = inl x
    by root m (IsInBy.behind to x y) = both-ways x.new v (sym (one-in after k v x.new a.put x.there)) x.heap_only plain
    by root m (IsInBy.itself same r) = ⊎_elim
        (λ here. inr (here, same ∙ here))
        (λ other. none-some (version_at slots root) r.version r.fresh (version-as after slots root (Some r.version) (sym (a.others root other)) r.there))
        (cases_eq root k)

pub root-added : (w : Window) (x page : ℕ) (slots : List Slot) (updated : Bool) (row : Row) → SoundPage w slots → IsActive w x → free_number slots ≤ 291
    → AddsRoot w slots (with_root slots updated x page row) (free_number slots)
root-added w x page slots updated row sound active few =
    let k = free_number slots in
    let v : Version = record { header = root_header updated x page k; row = row } in
    let a = added slots v sound.few few in
    let plain = root-plain updated x page k in
    let g = change-write w slots (with_added slots (Normal v)) k k sound
    (adding w slots (with_added slots (Normal v)) k v a (record { inserter = active.unfinished; deleter = refl; thawed = root-thawed updated x page k }) plain) in
    record {
      sound = write-sound w slots (with_added slots (Normal v)) k k sound g;
      others = a.others;
      entries = write-entries w slots (with_added slots (Normal v)) k k g;
      chains = new-root w slots (with_added slots (Normal v)) k v a plain g;
    }

-- A version taken away.

pub replaced-at : (slots : List Slot) (n x page place : ℕ) (hot : Bool) (t : Version) → slot_at slots n ≡ Some (Normal t)
    → slot_at (with_replaced slots n x page place hot) n ≡ Some (Normal (record t { header = replaced_header t.header x page place hot }))
replaced-at slots n x page place hot t at =
    slot_at-with_slot slots n (replaced_slot x page place hot (the_slot slots n)) (there-from_slot_at slots n (Normal t) at)
    ∙ ap (λ s. Some (replaced_slot x page place hot s)) (the_slot-from_slot_at slots n (Normal t) at)

pub replaced-other : (slots : List Slot) (n x page place : ℕ) (hot : Bool) (t : Version) (m : ℕ) → slot_at slots n ≡ Some (Normal t) → m ≢ n
    → slot_at (with_replaced slots n x page place hot) m ≡ slot_at slots m
replaced-other slots n x page place hot t m at other =
    slot_at-with_slot_other slots n m (replaced_slot x page place hot (the_slot slots n)) (there-from_slot_at slots n (Normal t) at).0 other

length-replaced : (slots : List Slot) (n x page place : ℕ) (hot : Bool) → length (with_replaced slots n x page place hot) ≡ length slots
length-replaced slots n x page place hot = length-with_slot slots n (replaced_slot x page place hot (the_slot slots n))

taken : (w : Window) (n x page place : ℕ) (hot : Bool) (slots : List Slot) → IsActive w x → (f : IsDeletable w slots n)
    → IsTaken w f.version (record f.version { header = replaced_header f.version.header x page place hot })
taken w n x page place hot slots active f = record {
  same = record {
    row = refl;
    inserter = refl;
    frozen = replaced-frozen f.version.header x page place hot;
    heap_only = replaced-heap_only f.version.header x page place hot;
    deleter = inr (active.unfinished, f.made);
  };
  made = f.made;
  untaken = f.untaken;
}

none-new : (w : Window) (slots after : List Slot) (n : ℕ) (t u : Version) → Takes slots after n t u → IsWrite w slots after n n → NoNew w slots after
none-new w slots after n t u a g root m i = by (in-back w slots after n n root m g i)
  where
    by : IsInBy w slots after n n root m → IsIn w slots root m
    by (IsInBy.before x) = x
    by (IsInBy.behind to x y) = none-some (version_at slots n) t x.fresh (version_at-from_slot_at slots n t a.here)
    by (IsInBy.itself same r) = ⊎_elim
        (λ here. none-some (version_at slots root) t r.fresh (ap (version_at slots) here ∙ version_at-from_slot_at slots n t a.here))
        (λ other. none-some (version_at slots root) r.version r.fresh (version-as after slots root (Some r.version) (sym (a.others root other)) r.there))
        (cases_eq root n)

pub taken-away : (w : Window) (n x page place : ℕ) (slots : List Slot) → SoundPage w slots → IsActive w x → IsDeletable w slots n
    → SetsXmaxOnPage w slots (with_replaced slots n x page place false) n
taken-away w n x page place slots sound active f =
    let t = f.version in
    let u : Version = record t { header = replaced_header t.header x page place false } in
    let here = slot_at-from_version_at slots n t f.there in
    let after = with_replaced slots n x page place false in
    let long = length-replaced slots n x page place false in
    let few : length after ≤ 291 = subst (λ (i : ℕ). i ≤ 291) (sym long) sound.few in
    let a : Takes slots after n t u = record {
      here = here;
      put = replaced-at slots n x page place false t here;
      others = λ m other. replaced-other slots n x page place false t m here other;
      few = few;
    } in
    let g = change-write w slots after n n sound (taking w slots after n t u a (taken w n x page place false slots active f) (replaced-hot t.header x page place false)) in
    record {
      sound = write-sound w slots after n n sound g;
      others = a.others;
      entries = write-entries w slots after n n g;
      chains = none-new w slots after n t u a g;
    }

-- A version replaced by a heap-only one.

pub active-some : (w : Window) (x : ℕ) → IsActive w x → x ≢ 0
active-some w x active none = absurd (let e : false ≡ true = subst (λ y. IsSome (place w y)) none active.is_given in cc)

leads-on : (w : Window) (x page k : ℕ) (t v : Version) → IsActive w x → is_heap_only v.header ≡ true → v.header.xmin.0 ≡ x
    → LeadsOn w k (record t { header = replaced_header t.header x page k true }) v
leads-on w x page k t v active heap_only inserter =
    let hot = replaced-hot t.header x page k true in
    let some = ne_eqb x 0 (active-some w x active) in
    let live : has_aborted w x ≡ false = ap is_aborted active.unfinished in
    record { replaced = rw (hot, some, live) refl; place = refl; heap_only = heap_only; inserter = inserter }

new-in : (w : Window) (slots after : List Slot) (n k : ℕ) (t u v : Version) → Replaces slots after n k t u v → link w after n ≡ Some k → is_heap_only v.header ≡ true
    → IsWrite w slots after n k → NewIn w slots after n k
new-in w slots after n k t u v a next heap_only g = (
  λ root i. in-on w after root n k (in-forth w slots after n k root n g i) next,
  λ root m i. by root m (in-back w slots after n k root m g i),
)
  where
    by : (root m : ℕ) → IsInBy w slots after n k root m → IsIn w slots root m ⊎ (IsIn w slots root n × (m ≡ k))
    by root m (IsInBy.before x) = inl x
    by root m (IsInBy.behind to x y) = inr (y, to)
    by root m (IsInBy.itself same r) = ⊎_elim
        (λ here. none-some (version_at slots root) t r.fresh (ap (version_at slots) here ∙ version_at-from_slot_at slots n t a.here))
        (λ off. ⊎_elim
        (λ here. both-ways v r.version (one-in after k v r.version a.added (ap (version_at after) (sym here) ∙ r.there)) heap_only r.plain)
        (λ other. none-some (version_at slots root) r.version r.fresh (version-as after slots root (Some r.version) (sym (a.others root off other)) r.there))
        (cases_eq root k))
        (cases_eq root n)

pub updated-slots : (slots : List Slot) (n x page : ℕ) (row : Row) (t : Version) → length slots ≤ 291 → free_number slots ≤ 291 → slot_at slots n ≡ Some (Normal t)
    → Replaces slots (with_updated slots n x page row) n (free_number slots) t (record t { header = replaced_header t.header x page (free_number slots) true })
    (record { header = heap_only_header x page (free_number slots); row = row })
updated-slots slots n x page row t few place here =
    let k = free_number slots in
    let v : Version = record { header = heap_only_header x page k; row = row } in
    let middle = with_added slots (Normal v) in
    let a = added slots v few place in
    let apart : n ≢ k = (λ same. none-some (version_at slots n) t (ap (version_at slots) same ∙ free_number-not_normal slots) (version_at-from_slot_at slots n t here)) in
    let moved : slot_at middle n ≡ Some (Normal t) = a.others n apart ∙ here in
    let long = length-replaced middle n x page k true in
    record {
      here = here;
      free = a.free;
      put = replaced-at middle n x page k true t moved;
      added = replaced-other middle n x page k true t k moved (λ same. apart (sym same)) ∙ a.put;
      others = λ m i j. replaced-other middle n x page k true t m moved i ∙ a.others m j;
      few = subst (λ (i : ℕ). i ≤ 291) (sym long) a.few;
    }

pub updated-here : (w : Window) (n x page : ℕ) (slots : List Slot) (row : Row) → SoundPage w slots → IsActive w x → IsDeletable w slots n → free_number slots ≤ 291
    → HotUpdatesPage w slots (with_updated slots n x page row) n (free_number slots)
updated-here w n x page slots row sound active f place =
    let k = free_number slots in
    let t = f.version in
    let u : Version = record t { header = replaced_header t.header x page k true } in
    let v : Version = record { header = heap_only_header x page k; row = row } in
    let after = with_updated slots n x page row in
    let a = updated-slots slots n x page row t sound.few place (slot_at-from_version_at slots n t f.there) in
    let leads = leads-on w x page k t v active refl refl in
    let g = change-write w slots after n k sound
    (replacing w slots after n k t u v a (taken w n x page k true slots active f) (record { inserter = active.unfinished; deleter = refl; thawed = refl }) leads) in
    let next = successor-from (has_aborted w) after n k u v (version_at-from_slot_at after n u a.put) (version_at-from_slot_at after k v a.added) leads.replaced leads.place leads.heap_only leads.inserter in
    record {
      sound = write-sound w slots after n k sound g;
      others = a.others;
      entries = write-entries w slots after n k g;
      chains = new-in w slots after n k t u v a next refl g;
    }
