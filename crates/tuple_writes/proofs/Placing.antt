-- The three writes: a new version, one taken away, and both.
use Rattle.std.proofs.Common.{◌≡◌, ◌≢◌, ◌⊎◌, ◌≤◌, ℕ, true, false, List, length, Option, Some, None, inl, inr, ⊎_elim, sym, ap, ◌∙◌, refl, subst}
use Rattle.std.proofs.lemmas.Bool.{cases_eq}
use Rattle.std.specs.Option.{option_and_then}
use Rattle.std.proofs.lemmas.Option.{same_Some}
use Rattle.page_sheet.specs.declared.slot.Slot.{Slot}
use Rattle.page_sheet.specs.declared.slot.Slot.TheVariants.{Unused, Normal, Redirect}
use Rattle.page_sheet.specs.Slots.{slot_at, version_at, version_of}
use Rattle.page_sheet.proofs.SlotLemmas.{version_at-from_slot_at}
use Rattle.tuple_header.specs.Version.{Version}
use Rattle.tuple_header.specs.Marks.{is_frozen, is_heap_only, is_hot_updated}
use Rattle.commit_status.specs.Window.{Window, IsInProgress}
use Rattle.hot_chain.specs.Chain.{has_aborted, is_replaced}
use Rattle.sound_page.specs.Links.{link}
use Rattle.sound_page.proofs.Links.{successor-from}
use Rattle.tuple_writes.specs.Keeps.{IsMade, HasNoXmax}
use Rattle.tuple_writes.proofs.Growth.{IsSameVersion, HasVersion, IsNew, none-some}
use Rattle.tuple_writes.proofs.Changing.{IsAltered, IsChange, same-version}

-- a slot for a new version: there is none of this number, or it is unused
abbrev pub IsFreePlace : List Slot → ℕ → Type 0
IsFreePlace slots k = (slot_at slots k ≡ None) ⊎ (slot_at slots k ≡ Some Unused)

pub version-as : (slots after : List Slot) (m : ℕ) (o : Option Version) → slot_at after m ≡ slot_at slots m → version_at slots m ≡ o → version_at after m ≡ o
version-as slots after m o same at = ap (option_and_then version_of) same ∙ at

free-version : (slots : List Slot) (k : ℕ) → IsFreePlace slots k → version_at slots k ≡ None
free-version slots k free = ⊎_elim (λ e. ap (option_and_then version_of) e) (λ e. ap (option_and_then version_of) e) free

free-redirect : {P : Type 0} (slots : List Slot) (k j : ℕ) → IsFreePlace slots k → slot_at slots k ≡ Some (Redirect j) → P
free-redirect slots k j free at = absurd (⊎_elim (λ e. let f : None ≡ Some (Redirect j) = sym e ∙ at in cc) (λ e. let f : Some Unused ≡ Some (Redirect j) = sym e ∙ at in cc) free)

normal-redirect : {P : Type 0} (slots : List Slot) (k j : ℕ) (t : Version) → slot_at slots k ≡ Some (Normal t) → slot_at slots k ≡ Some (Redirect j) → P
normal-redirect slots k j t here at = absurd (let f : Some (Normal t) ≡ Some (Redirect j) = sym here ∙ at in cc)

-- just made
pub record IsFresh (w : Window) (v : Version) : Type 0 where
  pub inserter : IsInProgress w v.header.xmin.0
  pub deleter : v.header.xmax.0 ≡ 0
  pub thawed : is_frozen v.header ≡ false

-- A new version that is no successor.

pub record Adds (slots after : List Slot) (k : ℕ) (v : Version) : Type 0 where
  pub free : IsFreePlace slots k
  pub put : slot_at after k ≡ Some (Normal v)
  pub others : (m : ℕ) → m ≢ k → slot_at after m ≡ slot_at slots m
  pub few : length after ≤ 291

new-at : (w : Window) (slots after : List Slot) (k m : ℕ) (u v : Version) → IsFreePlace slots k → slot_at after k ≡ Some (Normal v) → IsFresh w v
    → m ≡ k → version_at after m ≡ Some u → IsNew w slots m u
new-at w slots after k m u v free put fresh here at =
    let one : v ≡ u = same_Some v u (sym (version_at-from_slot_at after k v put) ∙ ap (version_at after) (sym here) ∙ at) in
    subst (IsNew w slots m) one (record { fresh = ap (version_at slots) here ∙ free-version slots k free; inserter = fresh.inserter; deleter = fresh.deleter; thawed = fresh.thawed })

pub adding : (w : Window) (slots after : List Slot) (k : ℕ) (v : Version) → Adds slots after k v → IsFresh w v → is_heap_only v.header ≡ false → IsChange w slots after k k
adding w slots after k v a fresh plain = record {
  few = a.few;
  kept = λ m t at. ⊎_elim
      (λ here. none-some (version_at slots m) t (ap (version_at slots) here ∙ free-version slots k a.free) at)
      (λ other. let there = version-as slots after m (Some t) (a.others m other) at in (record { new = t; there = there; same = same-version w t }, inr there))
      (cases_eq m k);
  was = λ m u at. ⊎_elim
      (λ here. inr (inr (new-at w slots after k m u v a.free a.put fresh here at)))
      (λ other. inl (version-as after slots m (Some u) (sym (a.others m other)) at))
      (cases_eq m k);
  redirect_kept = λ m j at. ⊎_elim (λ here. free-redirect slots k j a.free (ap (slot_at slots) (sym here) ∙ at)) (λ other. a.others m other ∙ at) (cases_eq m k);
  redirect_was = λ m j at. ⊎_elim (λ here. normal-redirect after k j v a.put (ap (slot_at after) (sym here) ∙ at)) (λ other. sym (a.others m other) ∙ at) (cases_eq m k);
  linked = λ m u at none heap_only. ⊎_elim
      (λ here. let one : v ≡ u = same_Some v u (sym (version_at-from_slot_at after k v a.put) ∙ ap (version_at after) (sym here) ∙ at) in
      let e : true ≡ false = sym heap_only ∙ ap (λ (z : Version). is_heap_only z.header) (sym one) ∙ plain in absurd (cc))
      (λ other. none-some (version_at slots m) u none (version-as after slots m (Some u) (sym (a.others m other)) at))
      (cases_eq m k);
}

-- A version taken away.

pub record Takes (slots after : List Slot) (n : ℕ) (t u : Version) : Type 0 where
  pub here : slot_at slots n ≡ Some (Normal t)
  pub put : slot_at after n ≡ Some (Normal u)
  pub others : (m : ℕ) → m ≢ n → slot_at after m ≡ slot_at slots m
  pub few : length after ≤ 291

-- by an id in progress, from a version whose making counts and no deleter
pub record IsTaken (w : Window) (t u : Version) : Type 0 where
  pub same : IsSameVersion w t u
  pub made : IsMade w t.header
  pub untaken : HasNoXmax w t.header

has-taken : (w : Window) (slots after : List Slot) (n m : ℕ) (t u s : Version) → slot_at slots n ≡ Some (Normal t) → slot_at after n ≡ Some (Normal u) → IsTaken w t u
    → m ≡ n → version_at slots m ≡ Some s → HasVersion w after m s × (HasNoXmax w s.header ⊎ (version_at after m ≡ Some s))
has-taken w slots after n m t u s from put taken here at =
    let one : t ≡ s = same_Some t s (sym (version_at-from_slot_at slots n t from) ∙ ap (version_at slots) (sym here) ∙ at) in (
      record { new = u; there = ap (version_at after) here ∙ version_at-from_slot_at after n u put; same = subst (λ (z : Version). IsSameVersion w z u) one taken.same },
      inl (subst (λ (z : Version). HasNoXmax w z.header) one taken.untaken),
    )

altered-at : (w : Window) (slots after : List Slot) (n k m : ℕ) (t u s : Version) → slot_at slots n ≡ Some (Normal t) → slot_at after n ≡ Some (Normal u) → IsTaken w t u
    → (is_hot_updated u.header ≡ false) ⊎ ((version_at slots k ≡ None) × (u.header.ctid.slot ≡ k) × (link w after n ≡ Some k))
    → m ≡ n → version_at after m ≡ Some s → IsAltered w slots after n k m s
altered-at w slots after n k m t u s from put taken leads here at =
    let one : u ≡ s = same_Some u s (sym (version_at-from_slot_at after n u put) ∙ ap (version_at after) (sym here) ∙ at) in
    subst (IsAltered w slots after n k m) one (record {
      here = here;
      had = record { old = t; there = ap (version_at slots) here ∙ version_at-from_slot_at slots n t from; same = taken.same };
      made = taken.made;
      leads = leads;
    })

pub taking : (w : Window) (slots after : List Slot) (n : ℕ) (t u : Version) → Takes slots after n t u → IsTaken w t u → is_hot_updated u.header ≡ false → IsChange w slots after n n
taking w slots after n t u a taken off = record {
  few = a.few;
  kept = λ m s at. ⊎_elim
      (λ here. has-taken w slots after n m t u s a.here a.put taken here at)
      (λ other. let there = version-as slots after m (Some s) (a.others m other) at in (record { new = s; there = there; same = same-version w s }, inr there))
      (cases_eq m n);
  was = λ m s at. ⊎_elim
      (λ here. inr (inl (altered-at w slots after n n m t u s a.here a.put taken (inl off) here at)))
      (λ other. inl (version-as after slots m (Some s) (sym (a.others m other)) at))
      (cases_eq m n);
  redirect_kept = λ m j at. ⊎_elim (λ here. normal-redirect slots n j t a.here (ap (slot_at slots) (sym here) ∙ at)) (λ other. a.others m other ∙ at) (cases_eq m n);
  redirect_was = λ m j at. ⊎_elim (λ here. normal-redirect after n j u a.put (ap (slot_at after) (sym here) ∙ at)) (λ other. sym (a.others m other) ∙ at) (cases_eq m n);
  linked = λ m s at none heap_only. ⊎_elim
      (λ here. none-some (version_at slots m) t none (ap (version_at slots) here ∙ version_at-from_slot_at slots n t a.here))
      (λ other. none-some (version_at slots m) s none (version-as after slots m (Some s) (sym (a.others m other)) at))
      (cases_eq m n);
}

-- Both, and the one leads to the other.

pub record Replaces (slots after : List Slot) (n k : ℕ) (t u v : Version) : Type 0 where
  pub here : slot_at slots n ≡ Some (Normal t)
  pub free : IsFreePlace slots k
  pub put : slot_at after n ≡ Some (Normal u)
  pub added : slot_at after k ≡ Some (Normal v)
  pub others : (m : ℕ) → m ≢ n → m ≢ k → slot_at after m ≡ slot_at slots m
  pub few : length after ≤ 291

pub record LeadsOn (w : Window) (k : ℕ) (u v : Version) : Type 0 where
  pub replaced : is_replaced (has_aborted w) u.header ≡ true
  pub place : u.header.ctid.slot ≡ k
  pub heap_only : is_heap_only v.header ≡ true
  pub inserter : v.header.xmin.0 ≡ u.header.xmax.0

by-place : {P : Type 0} (n k m : ℕ) → (m ≡ n → P) → (m ≡ k → P) → (m ≢ n → m ≢ k → P) → P
by-place n k m f g h = ⊎_elim f (λ a. ⊎_elim g (λ b. h a b) (cases_eq m k)) (cases_eq m n)

pub replacing : (w : Window) (slots after : List Slot) (n k : ℕ) (t u v : Version) → Replaces slots after n k t u v → IsTaken w t u → IsFresh w v → LeadsOn w k u v
    → IsChange w slots after n k
replacing w slots after n k t u v a taken fresh leads = record {
  few = a.few;
  kept = λ m s at. by-place n k m
      (λ here. has-taken w slots after n m t u s a.here a.put taken here at)
      (λ here. none-some (version_at slots m) s (ap (version_at slots) here ∙ none) at)
      (λ i j. let there = version-as slots after m (Some s) (a.others m i j) at in (record { new = s; there = there; same = same-version w s }, inr there));
  was = λ m s at. by-place n k m
      (λ here. inr (inl (altered-at w slots after n k m t u s a.here a.put taken (inr (none, leads.place, next)) here at)))
      (λ here. inr (inr (new-at w slots after k m s v a.free a.added fresh here at)))
      (λ i j. inl (version-as after slots m (Some s) (sym (a.others m i j)) at));
  redirect_kept = λ m j at. by-place n k m
      (λ here. normal-redirect slots n j t a.here (ap (slot_at slots) (sym here) ∙ at))
      (λ here. free-redirect slots k j a.free (ap (slot_at slots) (sym here) ∙ at))
      (λ i l. a.others m i l ∙ at);
  redirect_was = λ m j at. by-place n k m
      (λ here. normal-redirect after n j u a.put (ap (slot_at after) (sym here) ∙ at))
      (λ here. normal-redirect after k j v a.added (ap (slot_at after) (sym here) ∙ at))
      (λ i l. sym (a.others m i l) ∙ at);
  linked = λ m s at gone heap_only. by-place n k m
      (λ here. none-some (version_at slots m) t gone (ap (version_at slots) here ∙ version_at-from_slot_at slots n t a.here))
      (λ here. (
        record { from = refl; to = here; fresh = none; old = t; there = version_at-from_slot_at slots n t a.here; made = taken.made },
        next ∙ ap (λ (i : ℕ). Some i) (sym here),
      ))
      (λ i j. none-some (version_at slots m) s gone (version-as after slots m (Some s) (sym (a.others m i j)) at));
}
  where
    none : version_at slots k ≡ None
    none = free-version slots k a.free

    next : link w after n ≡ Some k
    next = successor-from (has_aborted w) after n k u v (version_at-from_slot_at after n u a.put) (version_at-from_slot_at after k v a.added) leads.replaced leads.place leads.heap_only leads.inserter
