-- A new engine agrees with the history's beginning.
use Rattle.std.proofs.Common.{◌≡◌, ℕ, zero, suc, List, [], length, map, replicate, Option, Some, None, refl, sym, ap, ◌∙◌, subst, arith}
use Rattle.std.specs.Option.{option_map}
use Rattle.std.proofs.lemmas.List.{length-replicate}
use Rattle.std.proofs.lemmas.Option.{none-some}
use Rattle.xid_circle.specs.declared.Tid.{Tid}
use Rattle.commit_status.specs.Window.{Window, IsWindow, place, status_of}
use Rattle.commit_status.proofs.Places.{place-lt}
use Rattle.commit_status.proofs.Giving.{finished-place}
use Rattle.page_sheet.specs.Slots.{version_at}
use Rattle.page_slots.specs.View.{PageView}
use Rattle.page_sheet.specs.declared.slot.Slot.{Slot}
use Rattle.index_lookup.specs.Pages.{version_in, slots_on}
use Rattle.table_indexes.specs.Indexes.{since_at, entries_at, new_entries}
use Rattle.heap_write.specs.Heap.{slots_of}
use Rattle.session_steps.proofs.InUse.{new-empty, new-in_use, indexed-is}
use Rattle.table_integrity.proofs.Keeping.{nothing-stays}
use Rattle.history.specs.World.{beginning}
use Rattle.refinement.proofs.Steps.{Agrees-beginning}
use Rattle.sessions.specs.declared.session.Session.{Session}
use Rattle.session_steps.specs.State.{State, session_at, seen, reader_of}
use Rattle.session_steps.specs.Agrees.{Agrees}
use Rattle.sound_entries.specs.Since.{IsExactSince}
use Rattle.sessions.proofs.PlaceLemmas.{none-open}

no-place : (w : Window) (x : ℕ) → w.entries ≡ [] → place w x ≡ None
no-place w x bare = of (place w x) refl
  where
    of : (o : Option ℕ) → place w x ≡ o → place w x ≡ None
    of None is = is
    of (Some i) is = absurd (let lt = place-lt w x i is in let none = ap length bare in omega arith)

pub none-at : (n : ℕ) → version_at [] n ≡ None
none-at zero = refl
none-at (suc n) = refl

no-slots : (n : ℕ) → slots_on [] n ≡ []
no-slots n = refl

no-version : (pages : List (List Slot)) (p : Tid) → pages ≡ [] → version_in pages p ≡ None
no-version pages p bare = ap (λ (pages : List (List Slot)). version_in pages p) bare ∙ (ap (λ (slots : List Slot). version_at slots p.slot) (no-slots p.page) ∙ none-at p.slot)

pub Agrees-new : (st : State) → st.heap.pages.pages ≡ [] → ((n : ℕ) → entries_at st.heap.indexes n ≡ new_entries st.settings.indexed n) → ((n : ℕ) → since_at st.heap.indexes n ≡ None) → st.heap.statuses.entries ≡ [] → IsWindow st.heap.statuses
    → st.heap.max_pages ≡ st.settings.max_pages → st.heap.statuses.stop_age ≡ st.settings.stop_age → st.sessions ≡ replicate 64 None → Agrees st (beginning st.settings.indexed)
Agrees-new st pages index exact entries window max_pages stop_age idle = record {
  found = Agrees-beginning (seen st) st.settings.indexed
      (λ p. no-version (slots_of st.heap) p (ap (λ (pages : List PageView). map (λ (p : PageView). p.slots) pages) pages))
      (λ x. ap (λ o. option_map (λ _. status_of st.heap.statuses x) o) (no-place st.heap.statuses x entries))
      (λ s. ap (option_map reader_of) (closed s));
  indexes = λ n. let used = new-in_use st.heap.indexes st.settings.indexed index n in let has = indexed-is st.settings.indexed n in
      (λ h. has.0 (used.0 h), λ h. used.1 (has.1 h));
  scans = λ s e at n. absurd (none-some e (sym (closed s) ∙ at));
  written = λ s e m at. absurd (none-some e (sym (closed s) ∙ at));
  sound = record {
    count = ap length idle ∙ length-replicate {A = Option Session} 64 None;
    max_pages = max_pages;
    stop_age = stop_age;
    window = window;
    sessions = λ s e at. absurd (none-some e (sym (closed s) ∙ at));
    tops = λ x done. absurd (let at = finished-place st.heap.statuses x (λ active. cc) in none-some at.0 (sym (no-place st.heap.statuses x entries) ∙ at.1));
    by_key = (new-in_use st.heap.indexes st.settings.indexed index 0).1 refl;
    since = λ n. subst (IsExactSince st.heap.statuses) (sym (exact n)) tt;
    scans = λ s e at. absurd (none-some e (sym (closed s) ∙ at));
    table = nothing-stays st.heap pages (new-empty st.heap.indexes st.settings.indexed index);
  };
}
  where
    closed : (s : ℕ) → session_at st s ≡ None
    closed s = ap (λ (xs : List (Option Session)). session_at (record st { sessions = xs }) s) idle ∙ none-open 64 s
