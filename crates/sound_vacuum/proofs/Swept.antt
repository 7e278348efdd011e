-- Entries that a sweep has come to.
use Rattle.std.proofs.Common.{◌≡◌, ◌⊎◌, ℕ, ℤ, true, false, List, Option, Some, None, refl, sym, ap, ◌∙◌, ⊎_elim, inl, inr}
use Rattle.std.specs.Prelude.{Contains, ◌↔◌}
use Rattle.std.specs.declared.cmp.Ordering.{Ordering}
use Rattle.std.specs.declared.cmp.Ordering.TheVariants.{Less, Equal, Greater}
use Rattle.xid_circle.specs.declared.Tid.{Tid}
use Rattle.tuple_header.specs.declared.version.Row.{Row}
use Rattle.page_sheet.specs.declared.slot.Slot.{Slot}
use Rattle.page_sheet.specs.declared.slot.Slot.TheVariants.{Dead}
use Rattle.commit_status.specs.Window.{Window}
use Rattle.hot_chain.specs.Chain.{is_root_in}
use Rattle.index_entries.specs.declared.entry.Entry.{Entry}
use Rattle.index_entries.specs.Order.{comparison, EntryPrecedes, IsAscending}
use Rattle.index_entries.specs.Sets.{IsAfter}
use Rattle.index_lookup.specs.Pages.{slots_on, slot_in}
use Rattle.sound_entries.specs.Entries.{EntriesAreSound, StaysSound}
use Rattle.sound_entries.proofs.Going.{stays-same, in-root}
use Rattle.root_index.specs.declared.progress.Progress.{Progress}
use Rattle.root_index.specs.declared.progress.Progress.TheVariants.{More, Done}
use Rattle.root_index.specs.Pieces.{RemovesPiece}
use Rattle.vacuum_passes.proofs.PieceCounts.{after-later}
use Rattle.sound_vacuum.specs.Sweeping.{AreDead, IsSweptBefore, IsSweptTo, RemovesPieces, KeepsDead, RemovesEntries}

-- Some of the entries to dead slots go.
pub going-stays : (value_of : Row → ℤ) (since : Option ℕ) (w : Window) (pages : List (List Slot)) (entries entries' : List Entry) → EntriesAreSound value_of since w pages entries
    → ((e : Entry) → Contains entries' e → Contains entries e)
    → ((e : Entry) → Contains entries e → is_root_in (slot_in pages e.tid) ≡ true → Contains entries' e)
    → StaysSound value_of since w pages pages entries entries'
going-stays value_of since w pages entries entries' sound old stays = record {
  sound = record {
    heap = sound.heap;
    index = record {
      leads = λ e there. sound.index.leads e (old e there);
      led = λ p n t i at. ⊎_elim
          (λ excused. inl excused)
          (λ s. inr (record {
            entry = s.entry;
            there = stays s.entry s.there (ap (λ q. is_root_in (slot_in pages q)) s.at ∙ in-root w (slots_on pages p.page) p.slot n i);
            at = s.at;
          }))
          (sound.index.led p n t i at);
      one = λ e f there among same. sound.index.one e f (old e there) (old f among) same;
      alike = λ e n t there i at. sound.index.alike e n t (old e there) i at;
    };
  };
  led = λ e there after. stays-same (slot_in pages e.tid) (sound.index.leads e there);
}

dead-no_root : (o : Option Slot) → o ≡ Some Dead → is_root_in o ≡ true → ⊥
dead-no_root o at root = let e : false ≡ true = sym (ap is_root_in at) ∙ root in cc

pub piece-stays : (value_of : Row → ℤ) (since : Option ℕ) (w : Window) (pages : List (List Slot)) (entries entries' : List Entry) (dead : List Tid) (from : Option Entry) (progress : Progress)
    → EntriesAreSound value_of since w pages entries → RemovesPiece entries entries' dead from progress → AreDead pages dead
    → StaysSound value_of since w pages pages entries entries'
piece-stays value_of since w pages entries entries' dead from progress sound removes are_dead =
    going-stays value_of since w pages entries entries' sound
    (λ e there. ((removes.members e).0 there).0)
    (λ e there root. (removes.members e).1 (there, λ all. dead-no_root (slot_in pages e.tid) (are_dead e.tid all.2) root))

-- Whether an entry comes after another.

before-or : (a b : Entry) → EntryPrecedes a b ⊎ (EntryPrecedes a b → ⊥)
before-or a b = by (comparison a b) refl
  where
    by : (o : Ordering) → comparison a b ≡ o → EntryPrecedes a b ⊎ (EntryPrecedes a b → ⊥)
    by Less e = inl e
    by Equal e = inr (λ p. let g : Less ≡ Equal = sym p ∙ e in cc)
    by Greater e = inr (λ p. let g : Less ≡ Greater = sym p ∙ e in cc)

pub after-or : (from : Option Entry) (e : Entry) → IsAfter from e ⊎ (IsAfter from e → ⊥)
after-or None e = inl tt
after-or (Some a) e = before-or a e

pub piece-goes_on : (entries entries' : List Entry) (dead : List Tid) (from : Option Entry) (progress : Progress) → IsSweptBefore entries dead from
    → RemovesPiece entries entries' dead from progress → IsSweptTo entries' dead progress
piece-goes_on entries entries' dead from progress swept removes e there upto among =
    let was = (removes.members e).0 there in
    ⊎_elim (λ after. was.1 (after, upto, among)) (λ not_after. swept e was.0 not_after among) (after-or from e)

pub sweep-begins : (entries : List Entry) (dead : List Tid) → IsSweptBefore entries dead None
    × ((last : Entry) → IsSweptTo entries dead (More last) → IsSweptBefore entries dead (Some last))
sweep-begins entries dead = (λ e there not_after. absurd (not_after tt), λ last swept. swept)

-- Piece after piece.

-- of the entries after `from` those to dead places are gone, and no others
record RemovesAfter (old new : List Entry) (dead : List Tid) (from : Option Entry) : Type 0 where
  ascending : IsAscending new
  members : (e : Entry) → Contains new e ↔ (Contains old e × ¬ (IsAfter from e × Contains dead e.tid))

sweeps-after : (dead : List Tid) (from : Option Entry) (old new : List Entry) → RemovesPieces dead from old new → RemovesAfter old new dead from
sweeps-after dead from old new (RemovesPieces.at_end _ _ _ removes) = record {
  ascending = removes.ascending;
  members = λ e. (
    λ there. let was = (removes.members e).0 there in (was.0, λ both. was.1 (both.0, tt, both.1)),
    λ was. (removes.members e).1 (was.0, λ all. was.1 (all.0, all.2)),
  );
}
sweeps-after dead from old new (RemovesPieces.piece _ last _ between _ removes rest) =
    let after = sweeps-after dead (Some last) between new rest in
    record {
      ascending = after.ascending;
      members = λ e. (
        λ there.
            let mid = (after.members e).0 there in
            let was = (removes.members e).0 mid.0 in (
              was.0,
              λ both. ⊎_elim
                  (λ late. mid.1 (late, both.1))
                  (λ early. was.1 (both.0, early, both.1))
                  (before-or last e),
            ),
        λ was. (after.members e).1 (
          (removes.members e).1 (was.0, λ all. was.1 (all.0, all.2)),
          λ both. was.1 (after-later from last e removes.goes_on.1 both.0, both.1),
        ),
      );
    }

pub sweeps-remove : (entries entries' : List Entry) (dead : List Tid) → RemovesPieces dead None entries entries' → RemovesEntries entries entries' dead
sweeps-remove entries entries' dead sweeps =
    let r = sweeps-after dead None entries entries' sweeps in
    record {
      ascending = r.ascending;
      members = λ e. (
        λ there. let was = (r.members e).0 there in (was.0, λ among. was.1 (tt, among)),
        λ was. (r.members e).1 (was.0, λ both. was.1 both.1),
      );
    }

-- Other steps come between.

pub swept-stays : (pages pages' : List (List Slot)) (entries entries' : List Entry) (dead : List Tid) (from : Option Entry) → KeepsDead pages pages' entries entries'
    → AreDead pages dead → IsSweptBefore entries dead from → AreDead pages' dead × IsSweptBefore entries' dead from
swept-stays pages pages' entries entries' dead from keeps are swept = (
  λ p among. keeps.dead p (are p among),
  λ e there not_after among. keeps.fresh e there (λ old. swept e old not_after among) (are e.tid among),
)

pub unled-stays : (pages pages' : List (List Slot)) (entries entries' : List Entry) (dead : List Tid) → KeepsDead pages pages' entries entries'
    → AreDead pages dead → IsSweptTo entries dead Done → AreDead pages' dead × IsSweptTo entries' dead Done
unled-stays pages pages' entries entries' dead keeps are swept = (
  λ p among. keeps.dead p (are p among),
  λ e there upto among. keeps.fresh e there (λ old. swept e old upto among) (are e.tid among),
)
