-- Which slots are dead, by their fates; and what is told of a version.
use Rattle.std.proofs.Common.{◌≡◌, ℕ, true, false, List, Option, Some, None, refl, sym, ap, ◌∙◌, subst}
use Rattle.std.specs.Prelude.{◌↔◌}
use Rattle.std.specs.Option.{option_map, option_and_then}
use Rattle.std.proofs.lemmas.Option.{same_Some, none-some}
use Rattle.tuple_header.specs.Version.{Version}
use Rattle.tuple_header.specs.declared.version.Header.{Header}
use Rattle.tuple_header.specs.declared.version.Row.{Row}
use Rattle.page_sheet.specs.declared.slot.Slot.{Slot}
use Rattle.page_sheet.specs.declared.slot.Slot.TheVariants as slot
use Rattle.page_sheet.specs.Slots.{slot_at, version_at, version_of}
use Rattle.commit_status.specs.Window.{Window}
use Rattle.visibility.specs.Visible.{IsDead}
use Rattle.sound_page.specs.Dead.{IsDeadAt}
use Rattle.slot_fates.specs.declared.fate.SlotFate.{SlotFate}
use Rattle.slot_fates.specs.declared.fate.SlotFate.TheVariants as fate
use Rattle.slot_fates.specs.declared.fate.VersionFate.{VersionFate}
use Rattle.slot_fates.specs.declared.fate.VersionFate.TheVariants.{RolledBack, Deleted, GoesWith, Kept}
use Rattle.slot_fates.specs.Fates.{IsVersionFate, IsFateOf, IsFate, WasRolledBack, goes}
use Rattle.slot_fates.proofs.FateLemmas.{fate-one}
use Rattle.shapes.specs.Dead.{is_dead_fate}

-- a version that is kept is not dead: else it had another fate
kept-alive : (w : Window) (horizon : ℕ) (slots : List Slot) (n : ℕ) (t : Version) (fate : VersionFate) → version_at slots n ≡ Some t
    → IsVersionFate w horizon slots n t.header fate → goes fate ≡ false → ¬ IsDead w horizon t.header
kept-alive w horizon slots n t fate at is kept dead = by dead
  where
    other : (f : VersionFate) → IsVersionFate w horizon slots n t.header f → goes f ≡ true → ⊥
    other f fits gone = absurd (let e : true ≡ false = sym gone ∙ ap goes (fate-one w horizon slots n t f fate at fits is) ∙ kept in cc)

    rolled : WasRolledBack w t.header → ⊥
    rolled was = other (RolledBack t.header.xmin) (refl, was) refl

    by : IsDead w horizon t.header → ⊥
    by (IsDead.never_was thawed aborted) = rolled (thawed, aborted)
    by (IsDead.is_past committed past) = other (Deleted t.header.xmax) (refl, rolled, (committed, past)) refl

dead-there : (w : Window) (horizon : ℕ) (slots : List Slot) (n : ℕ) (t : Version) → version_at slots n ≡ Some t → IsDeadAt w horizon slots n → IsDead w horizon t.header
dead-there w horizon slots n t at d = subst (λ (v : Version). IsDead w horizon v.header) (same_Some d.version t (sym d.there ∙ at)) d.dead

is-dead-at : (w : Window) (horizon : ℕ) (slots : List Slot) (n : ℕ) (t : Version) → version_at slots n ≡ Some t → IsDead w horizon t.header → IsDeadAt w horizon slots n
is-dead-at w horizon slots n t at dead = record { version = t; there = at; dead = dead }

version-dead : (w : Window) (horizon : ℕ) (slots : List Slot) (n : ℕ) (t : Version) (f : VersionFate) → version_at slots n ≡ Some t
    → IsVersionFate w horizon slots n t.header f → IsDeadAt w horizon slots n ↔ (is_dead_fate (fate.Version f) ≡ true)
version-dead w horizon slots n t (RolledBack x) at is = (λ d. refl, λ e. is-dead-at w horizon slots n t at (IsDead.never_was is.1.0 is.1.1))
version-dead w horizon slots n t (Deleted x) at is = (λ d. refl, λ e. is-dead-at w horizon slots n t at (IsDead.is_past is.2.0 is.2.1))
version-dead w horizon slots n t (GoesWith later) at is = (λ d. absurd (is.0 (dead-there w horizon slots n t at d)), λ e. absurd (cc))
version-dead w horizon slots n t (Kept deleter) at is =
    (λ d. absurd (kept-alive w horizon slots n t (Kept deleter) at is refl (dead-there w horizon slots n t at d)), λ e. absurd (cc))

-- what holds no version is not dead
nothing-dead : (w : Window) (horizon : ℕ) (slots : List Slot) (n : ℕ) → version_at slots n ≡ None → IsDeadAt w horizon slots n ↔ (false ≡ true)
nothing-dead w horizon slots n none = (λ d. absurd (none-some d.version (sym none ∙ d.there)), λ e. absurd (cc))

pub dead-fate : (w : Window) (horizon : ℕ) (slots : List Slot) (n : ℕ) (f : SlotFate) → IsFate w horizon slots n f
    → IsDeadAt w horizon slots n ↔ (is_dead_fate f ≡ true)
dead-fate w horizon slots n f is = by (slot_at slots n) f refl is
  where
    holds : (o : Option Slot) → slot_at slots n ≡ o → version_at slots n ≡ option_and_then version_of o
    holds o at = ap (option_and_then version_of) at

    by : (o : Option Slot) (g : SlotFate) → slot_at slots n ≡ o → IsFateOf w horizon slots n o g → IsDeadAt w horizon slots n ↔ (is_dead_fate g ≡ true)
    by None fate.NoSlot at is = nothing-dead w horizon slots n (holds None at)
    by (Some slot.Unused) fate.Unused at is = nothing-dead w horizon slots n (holds (Some slot.Unused) at)
    by (Some slot.Dead) fate.Dead at is = nothing-dead w horizon slots n (holds (Some slot.Dead) at)
    by (Some (slot.Redirect k)) (fate.Redirect target) at is = nothing-dead w horizon slots n (holds (Some (slot.Redirect k)) at)
    by (Some (slot.Normal t)) (fate.Version g) at is = version-dead w horizon slots n t g (holds (Some (slot.Normal t)) at) is
    by o g at is = absurd is

-- What is told of a version.

abbrev pub version_with : Header → Row → Version
version_with header row = record { header = header; row = row }

pub row-there : (o : Option Version) (header : Header) → Some header ≡ option_map (λ (t : Version). t.header) o → None ≡ option_map (λ (t : Version). t.row) o → ⊥
row-there None header h r = none-some header (sym h)
row-there (Some t) header h r = none-some t.row r
