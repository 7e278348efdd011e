-- Before which turn nothing on a page dies: how it is used, and what writes, cleaning, ids and more memory leave of it.
use Rattle.std.proofs.Common.{◌≡◌, ◌≢◌, ℕ, ◌<◌, ◌≤◌, Bool, true, false, List, length, Option, Some, None, IsSome, inl, inr, ⊎_elim, sym, ap, subst, refl, ◌∙◌, arith}
use Rattle.std.specs.Option.{option_and_then}
use Rattle.std.proofs.lemmas.Option.{same_Some, none-some}
use Rattle.std.proofs.lemmas.Bool.{cases_lt, cases_Bool}
use Rattle.std.specs.Prelude.{nat_eq}
use Rattle.std.specs.List.{list_any}
use Rattle.xid_circle.specs.declared.Xid.{Xid}
use Rattle.page_sheet.specs.declared.slot.Slot.{Slot}
use Rattle.page_sheet.specs.declared.slot.Slot.TheVariants.{Unused, Normal, Redirect, Dead}
use Rattle.page_sheet.specs.Slots.{slot_at, version_at, version_of, with_added, free_number, IsNormalAt}
use Rattle.page_sheet.proofs.SlotLemmas.{normal_at, same_or_other, slot_at-with_added, slot_at-with_added_other, version_at-from_slot_at}
use Rattle.tuple_header.specs.Version.{Version}
use Rattle.tuple_header.specs.declared.version.Header.{Header}
use Rattle.tuple_header.specs.declared.version.Row.{Row}
use Rattle.commit_status.specs.declared.status.Status.{Status}
use Rattle.commit_status.specs.declared.status.Status.TheVariants.{InProgress, Committed, Aborted}
use Rattle.commit_status.specs.Window.{Window, IsWindow, IsGiven, IsAborted, IsCommitted, IsUpToNext, turns, place}
use Rattle.commit_status.specs.Changes.{Finishes}
use Rattle.commit_status.proofs.Places.{at-from_place, some-from_is, is-from_some, precedes-turns}
use Rattle.commit_status.proofs.Giving.{finished-place}
use Rattle.commit_status.proofs.ChangesLemmas.{finishes-place}
use Rattle.visibility.specs.Visible.{IsDead}
use Rattle.visibility.proofs.Dead.{committed-upto}
use Rattle.sound_page.specs.Dead.{HasDead}
use Rattle.prune.specs.Deaths.{MayDieFrom, NothingDiesBefore}
use Rattle.tuple_writes.specs.Headers.{replaced_header, root_header, heap_only_header}
use Rattle.tuple_writes.specs.Writes.{with_root, with_heap_only, with_replaced, with_updated}
use Rattle.tuple_writes.proofs.Bits.{replaced-frozen}
use Rattle.tuple_writes.proofs.Slotted.{replaced-at, replaced-other}
use Rattle.tuple_writes.proofs.Altered.{normal-added}
use Rattle.hot_chain.proofs.Chains.{contains-any, any-contains}
use Rattle.freeze.specs.Freezing.{Freezes}
use Rattle.freeze.proofs.Frozen.{SameDeleter, IsFrozenFrom, was-version}
use Rattle.write_ids.specs.Ids.{SameIds, GivesUnder}
use Rattle.heap_write.specs.Cleaning.{FreesSlots}
use Rattle.write_ids.proofs.IdLemmas.{same-status}
use Rattle.write_ids.proofs.GivenIds.{given-first, given-longer, given-earlier, given-status}

-- Nothing is dead while the horizon isn't after the turn.

given-of : (w : Window) (x : ℕ) → IsCommitted w x → IsGiven w x
given-of w x done =
    let at = finished-place w x (λ e. let f : Committed ≡ InProgress = sym done ∙ e in cc) in
    is-from_some (place w x) at.0 at.1

not-dead : (w : Window) (turn horizon : ℕ) (h : Header) → IsWindow w → IsUpToNext w horizon → turns w.first horizon ≤ turn → MayDieFrom w turn h → ¬ IsDead w horizon h
not-dead w turn horizon h is up early may (IsDead.never_was thawed aborted) = ⊎_elim (λ frozen. thawed frozen) (λ live. live aborted) may.kept
not-dead w turn horizon h is up early may (IsDead.is_past done before) =
    let sooner : turns w.first h.xmax.0 < turns w.first horizon = (precedes-turns w h.xmax.0 horizon is (committed-upto w h.xmax.0 done) up).0 before in
    let later = may.later (given-of w h.xmax.0 done) in
    let no : 1 ≤ 0 = omega (arith, sooner, later, early) in
    omega (arith, no)

pub none-dead : (w : Window) (turn horizon : ℕ) (slots : List Slot) → IsWindow w → IsUpToNext w horizon → turns w.first horizon ≤ turn → NothingDiesBefore w turn slots
    → ¬ HasDead w horizon slots
none-dead w turn horizon slots is up early dies some =
    not-dead w turn horizon some.dead.version.header is up early (dies.each some.number some.dead.version some.dead.there) some.dead.dead

-- Of ids.

-- no id is aborted that wasn't, and what is given that wasn't is given later
pub record AgesOn (w v : Window) (turn : ℕ) : Type 0 where
  pub longer : length w.entries ≤ length v.entries
  pub aborted : (x : ℕ) → IsAborted v x → IsAborted w x
  pub given : (x : ℕ) → (IsGiven w x → turn ≤ turns w.first x) → IsGiven v x → turn ≤ turns v.first x

pub dies-on : (w v : Window) (turn : ℕ) (slots : List Slot) → AgesOn w v turn → NothingDiesBefore w turn slots → NothingDiesBefore v turn slots
dies-on w v turn slots ages dies = record {
  reached = let longer = ages.longer in let reached = dies.reached in omega arith;
  each = λ n t at.
      let may = dies.each n t at in record {
        kept = ⊎_elim (λ frozen. inl frozen) (λ live. inr (λ aborted. live (ages.aborted t.header.xmin.0 aborted))) may.kept;
        later = λ there. ages.given t.header.xmax.0 may.later there;
      };
}

-- ids are given
pub ages-given : (xs : List ℕ) (w v : Window) (parent : Option ℕ) (turn : ℕ) → turn ≤ length w.entries → GivesUnder w parent xs v → IsWindow v → AgesOn w v turn
ages-given xs w v parent turn reached g is = record {
  longer = given-longer xs w v parent g;
  aborted = λ x aborted. sym (given-status xs w v parent x g is) ∙ aborted;
  given = λ x before there.
      let at = some-from_is (place v x) there in
      let turn_of : turns v.first x ≡ at.0 = (at-from_place v.first (length v.entries) x at.0 at.1).turn in
      ⊎_elim
      (λ old. let earlier = before (is-from_some (place w x) at.0 (given-earlier xs w v parent x at.0 g at.1 old)) in
      subst (λ f. turn ≤ turns f x) (sym (given-first xs w v parent g)) earlier)
      (λ new. omega (arith, new, reached, turn_of))
      (cases_lt at.0 (length w.entries));
}

-- ids are finished, and not aborted
pub ages-finished : (w v : Window) (ids : List ℕ) (status : Status) (turn : ℕ) → status ≢ Aborted → Finishes w v ids status → AgesOn w v turn
ages-finished w v ids status turn live f = record {
  longer = let same = f.count in omega arith;
  aborted = λ x aborted. ⊎_elim (λ now. absurd (live (sym now.2 ∙ aborted))) (λ old. sym old.1 ∙ aborted) (f.each x);
  given = λ x before there.
      let was : IsGiven w x = subst IsSome (finishes-place w v ids status x f) there in
      subst (λ first. turn ≤ turns first x) (sym f.first) (before was);
}

-- they are the same
pub ages-same : (w v : Window) (turn : ℕ) → SameIds w v → AgesOn w v turn
ages-same w v turn same = record {
  longer = subst (λ entries. length w.entries ≤ length entries) (sym same.entries) (omega arith);
  aborted = λ x aborted. sym (same-status w v x same) ∙ aborted;
  given = λ x before there.
      let at : place v x ≡ place w x = rw (same.first, same.entries) refl in
      subst (λ first. turn ≤ turns first x) (sym same.first) (before (subst IsSome at there));
}

-- Of pages.

pub dies-earlier : (w : Window) (turn earlier : ℕ) (slots : List Slot) → earlier ≤ turn → NothingDiesBefore w turn slots → NothingDiesBefore w earlier slots
dies-earlier w turn earlier slots le dies = record {
  reached = let reached = dies.reached in omega arith;
  each = λ n t at.
      let may = dies.each n t at in
      record { kept = may.kept; later = λ there. let later = may.later there in omega arith };
}

pub nobody-given : (w : Window) → ¬ IsGiven w 0
nobody-given w there = let e : true ≡ false = sym there in cc

-- a version is added that x, not aborted, made
dies-added : (w : Window) (turn x : ℕ) (slots : List Slot) (v : Version) → v.header.xmin.0 ≡ x → v.header.xmax.0 ≡ 0 → ¬ IsAborted w x → NothingDiesBefore w turn slots
    → NothingDiesBefore w turn (with_added slots (Normal v))
dies-added w turn x slots v made undeleted live dies = record {
  reached = dies.reached;
  each = λ n t at. ⊎_elim
      (λ here.
      let same : v ≡ t = same_Some v t (sym (version_at-from_slot_at (with_added slots (Normal v)) (free_number slots) v (slot_at-with_added slots (Normal v)))
      ∙ (ap (version_at (with_added slots (Normal v))) (sym here) ∙ at)) in
      subst (λ (u : Version). MayDieFrom w turn u.header) same (record {
        kept = inr (subst (λ y. ¬ IsAborted w y) (sym made) live);
        later = λ there. absurd (nobody-given w (subst (IsGiven w) undeleted there));
      }))
      (λ other. dies.each n t (sym (ap (option_and_then version_of) (slot_at-with_added_other slots n (Normal v) other)) ∙ at))
      (same_or_other n (free_number slots));
}

pub dies-root : (w : Window) (turn x page : ℕ) (slots : List Slot) (updated : Bool) (row : Row) → ¬ IsAborted w x → NothingDiesBefore w turn slots
    → NothingDiesBefore w turn (with_root slots updated x page row)
dies-root w turn x page slots updated row live dies =
    dies-added w turn x slots (record { header = root_header updated x page (free_number slots); row = row }) refl refl live dies

-- x, whose turn isn't before, takes a version away
pub dies-replaced : (w : Window) (turn n x page place : ℕ) (hot : Bool) (slots : List Slot) → turn ≤ turns w.first x → IsNormalAt slots n → NothingDiesBefore w turn slots
    → NothingDiesBefore w turn (with_replaced slots n x page place hot)
dies-replaced w turn n x page place hot slots later normal dies =
    let old = normal_at slots n normal in
    let u = old.0 in
    let h = replaced_header u.header x page place hot in
    let after = with_replaced slots n x page place hot in record {
      reached = dies.reached;
      each = λ m t at. ⊎_elim
          (λ here.
          let same : record u { header = h } ≡ t = same_Some (record u { header = h }) t
          (sym (version_at-from_slot_at after n (record u { header = h }) (replaced-at slots n x page place hot u old.1)) ∙ (ap (version_at after) (sym here) ∙ at)) in
          let may = dies.each n u (version_at-from_slot_at slots n u old.1) in
          subst (λ (v : Version). MayDieFrom w turn v.header) same (record {
            kept = ⊎_elim (λ frozen. inl (replaced-frozen u.header x page place hot ∙ frozen)) (λ live. inr live) may.kept;
            later = λ there. later;
          }))
          (λ other. dies.each m t (sym (ap (option_and_then version_of) (replaced-other slots n x page place hot u m old.1 other)) ∙ at))
          (same_or_other m n);
    }

-- x, not aborted, replaces a version by a heap-only one
pub dies-updated : (w : Window) (turn n x page : ℕ) (slots : List Slot) (row : Row) → ¬ IsAborted w x → turn ≤ turns w.first x → IsNormalAt slots n → NothingDiesBefore w turn slots
    → NothingDiesBefore w turn (with_updated slots n x page row)
dies-updated w turn n x page slots row live later normal dies =
    let v : Version = record { header = heap_only_header x page (free_number slots); row = row } in
    dies-replaced w turn n x page (free_number slots) true (with_heap_only slots x page row) later (normal-added slots n (Normal v) normal)
    (dies-added w turn x slots v refl refl live dies)

-- A page is cleaned.

-- freezing leaves the inserter's number, and of an aborted deleter nothing
frozen-may : (w : Window) (cutoff turn : ℕ) (t u : Header) → IsFrozenFrom w cutoff t u → MayDieFrom w turn t → MayDieFrom w turn u
frozen-may w cutoff turn t u from may = record {
  kept = ⊎_elim (λ frozen. inl (from.stays frozen)) (λ live. inr (subst (λ (x : Xid). ¬ IsAborted w x.0) (sym from.inserter) live)) may.kept;
  later = later from.deleter;
}
  where
    later : SameDeleter w t u → IsGiven w u.xmax.0 → turn ≤ turns w.first u.xmax.0
    later (SameDeleter.kept same ctid mask live) there =
        subst (λ (x : Xid). turn ≤ turns w.first x.0) (sym same) (may.later (subst (λ (x : Xid). IsGiven w x.0) same there))
    later (SameDeleter.gone none aborted) there = absurd (nobody-given w (subst (IsGiven w) none there))

pub dies-frozen : (w : Window) (cutoff page turn : ℕ) (slots after : List Slot) → Freezes w cutoff page slots after → NothingDiesBefore w turn slots → NothingDiesBefore w turn after
dies-frozen w cutoff page turn slots after freezes dies = record {
  reached = dies.reached;
  each = λ n u at.
      let was = was-version w cutoff page slots after freezes n u at in
      frozen-may w cutoff turn was.version.header u.header was.frozen (dies.each n was.version was.there);
}

-- a version that is there after dead slots became unused was there before
still-there : (o after : Option Slot) (t : Version) → (o ≡ Some Dead → option_and_then version_of after ≡ None) → (o ≢ Some Dead → after ≡ o)
    → option_and_then version_of after ≡ Some t → option_and_then version_of o ≡ Some t
still-there None after t dead other at = sym (ap (option_and_then version_of) (other (λ e. none-some Dead e))) ∙ at
still-there (Some Unused) after t dead other at = sym (ap (option_and_then version_of) (other (λ e. cc))) ∙ at
still-there (Some (Normal u)) after t dead other at = sym (ap (option_and_then version_of) (other (λ e. cc))) ∙ at
still-there (Some (Redirect k)) after t dead other at = sym (ap (option_and_then version_of) (other (λ e. cc))) ∙ at
still-there (Some Dead) after t dead other at = absurd (none-some t (sym (dead refl) ∙ at))

pub freed-version : (slots after : List Slot) (numbers : List ℕ) → FreesSlots slots after numbers → (n : ℕ) (t : Version) → version_at after n ≡ Some t → version_at slots n ≡ Some t
freed-version slots after numbers frees n t at = still-there (slot_at slots n) (slot_at after n) t gone (λ alive. frees.others n (λ named. alive)) at
  where
    gone : slot_at slots n ≡ Some Dead → version_at after n ≡ None
    gone dead = ⊎_elim
        (λ named. ap (option_and_then version_of) (frees.freed n (any-contains n numbers named) dead))
        (λ off. ap (option_and_then version_of) (frees.others n (λ named. absurd (let e : true ≡ false = sym (contains-any n numbers named) ∙ off in cc)) ∙ dead))
        (cases_Bool (list_any (nat_eq n) numbers))

pub dies-freed : (w : Window) (turn : ℕ) (slots after : List Slot) (numbers : List ℕ) → FreesSlots slots after numbers → NothingDiesBefore w turn slots → NothingDiesBefore w turn after
dies-freed w turn slots after numbers frees dies = record {
  reached = dies.reached;
  each = λ n t at. dies.each n t (freed-version slots after numbers frees n t at);
}
