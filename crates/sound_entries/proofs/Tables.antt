-- Tables as lists of pages: none, one page put, one added; and entries that go.
use Rattle.std.proofs.Common.{◌≡◌, ℕ, ℤ, ◌<◌, true, false, List, [], Option, Some, sym, ap, ◌∙◌, ⊎_elim, inl, inr, arith}
use Rattle.std.specs.List.{Contains}
use Rattle.xid_circle.specs.declared.Tid.{Tid}
use Rattle.tuple_header.specs.declared.version.Row.{Row}
use Rattle.page_sheet.specs.declared.slot.Slot.{Slot}
use Rattle.page_sheet.specs.declared.slot.Slot.TheVariants.{Dead}
use Rattle.commit_status.specs.Window.{Window}
use Rattle.hot_chain.specs.Chain.{is_root_in}
use Rattle.index_entries.specs.declared.entry.Entry.{Entry}
use Rattle.index_entries.specs.Sets.{Loses}
use Rattle.index_lookup.specs.Pages.{slots_on, slot_in}
use Rattle.sound_entries.specs.Entries.{EntriesAreSound, StaysSound}
use Rattle.sound_entries.proofs.Going.{stays-same, in-root}
use Rattle.sound_page.proofs.Empty.{empty-page, no-version}

-- Nothing.

none-among : {P : Type 0} (e : Entry) → Contains [] e → P
none-among e there = let below : there.0 < 0 = there.1 in absurd (omega arith)

pub nothing-sound : (value_of : Row → ℤ) (since : Option ℕ) (w : Window) → EntriesAreSound value_of since w [] []
nothing-sound value_of since w = record {
  heap = λ n. empty-page w;
  index = record {
    leads = λ e there. none-among e there;
    led = λ p n t i at. no-version n t at;
    one = λ e f there among same. none-among e there;
    alike = λ e n t there i at. none-among e there;
  };
}

-- Entries that lead to dead slots go.

pub going-stays : (value_of : Row → ℤ) (since : Option ℕ) (w : Window) (pages : List (List Slot)) (entries entries' : List Entry) (dead : List Tid) → EntriesAreSound value_of since w pages entries
    → Loses entries entries' dead → ((p : Tid) → Contains dead p → slot_in pages p ≡ Some Dead) → StaysSound value_of since w pages pages entries entries'
going-stays value_of since w pages entries entries' dead sound loses are_dead = record {
  sound = record {
    heap = sound.heap;
    index = record {
      leads = λ e there. sound.index.leads e (loses.none_new e there);
      led = λ p n t i at. ⊎_elim
          (λ excused. inl excused)
          (λ s. inr (record {
            entry = s.entry;
            there = loses.kept s.entry s.there (λ among. not-root p (ap (slot_in pages) (sym s.at) ∙ are_dead s.entry.tid among) (in-root w (slots_on pages p.page) p.slot n i));
            at = s.at;
          }))
          (sound.index.led p n t i at);
      one = λ e f there among same. sound.index.one e f (loses.none_new e there) (loses.none_new f among) same;
      alike = λ e n t there i at. sound.index.alike e n t (loses.none_new e there) i at;
    };
  };
  led = λ e there after. stays-same (slot_in pages e.tid) (sound.index.leads e there);
}
  where
    not-root : (p : Tid) → slot_in pages p ≡ Some Dead → is_root_in (slot_in pages p) ≡ true → ⊥
    not-root p at root = let e : false ≡ true = sym (ap is_root_in at) ∙ root in cc
