-- Dead versions: one of which a header tells, and the last of a list; and versions that are not dead yet.
use Rattle.std.proofs.Common.{◌≡◌, ◌⊎◌, ℕ, ◌+◌, ◌-◌, ◌<◌, ◌≤◌, ◌^◌, List, length, get_or, Option, Some, None, arith, inl, inr, ⊎_elim, sym, ap, ◌∙◌, refl, subst}
use Rattle.std.specs.Prelude.{MatchOption}
use Rattle.std.proofs.lemmas.Bool.{cases_lt}
use Rattle.std.proofs.lemmas.Option.{same_Some}
use Rattle.page_sheet.specs.declared.slot.Slot.{Slot}
use Rattle.page_sheet.specs.Slots.{version_at, header_at, SlotIsThere}
use Rattle.std.specs.Option.{option_map, unwrap_or}
use Rattle.tuple_header.specs.Version.{Version}
use Rattle.tuple_header.specs.declared.version.Header.{Header}
use Rattle.commit_status.specs.Window.{Window, IsWindow, IsAborted, IsUpToNext, turns, next_id}
use Rattle.commit_status.proofs.Turns.{turns-given}
use Rattle.commit_status.proofs.Places.{upto-next}
use Rattle.visibility.specs.Visible.{IsDead}
use Rattle.sound_page.specs.Dead.{IsDeadAt, HasDead}
use Rattle.sound_page.proofs.Links.{version-there}
use Rattle.prune.specs.Deaths.{IsTurnOf, IsTurnThere, MayDieFrom, NothingDiesBefore, LivesAt}
use Rattle.prune.specs.declared.dead.Outlook.{Outlook}

-- of the first `prefix` of a chain
pub record IsCutPrefix (w : Window) (horizon : ℕ) (slots : List Slot) (chain : List ℕ) (prefix cut : ℕ) : Type 0 where
  pub within : cut ≤ prefix
  pub dead : 0 < cut → IsDeadAt w horizon slots (get_or chain (cut - 1) 0)
  pub none_after : (j : ℕ) → cut ≤ j → j < prefix → ¬ IsDeadAt w horizon slots (get_or chain j 0)

pub some-version : (o : Option Version) (h : Header) → option_map (λ t. t.header) o ≡ Some h → (t : Version) × (o ≡ Some t) × (t.header ≡ h)
some-version None h e = absurd (cc)
some-version (Some t) h e = (t, refl, (let f : Some t.header ≡ Some h = e in cc))

-- a header that is there, and whether it is that of a dead version
pub dead-there : (w : Window) (horizon : ℕ) (slots : List Slot) (n : ℕ) (h : Header) → header_at slots n ≡ Some h → IsDead w horizon h → IsDeadAt w horizon slots n
dead-there w horizon slots n h e dead =
    let v = some-version (version_at slots n) h e in
    record { version = v.0; there = v.1; dead = subst (IsDead w horizon) (sym v.2) dead }

pub dead-here : (w : Window) (horizon : ℕ) (slots : List Slot) (n : ℕ) (h : Header) → header_at slots n ≡ Some h → IsDeadAt w horizon slots n → IsDead w horizon h
dead-here w horizon slots n h at dead =
    let same : dead.version.header ≡ h = same_Some dead.version.header h (sym (ap (option_map (λ (t : Version). t.header)) dead.there) ∙ at) in
    subst (IsDead w horizon) same dead.dead

-- what a header tells of the version that is there
pub header-of : (slots : List Slot) (n : ℕ) (h : Header) (t : Version) → header_at slots n ≡ Some h → version_at slots n ≡ Some t → h ≡ t.header
header-of slots n h t at there = sym (same_Some t.header h (sym (ap (option_map (λ (v : Version). v.header)) there) ∙ at))

pub lives-there : (w : Window) (horizon turn : ℕ) (slots : List Slot) (n : ℕ) (h : Header) → header_at slots n ≡ Some h → ¬ IsDead w horizon h → MayDieFrom w turn h
    → LivesAt w horizon turn slots n
lives-there w horizon turn slots n h at alive later =
    ((λ dead. alive (dead-here w horizon slots n h at dead)), (λ t there. subst (MayDieFrom w turn) (header-of slots n h t at there) later))

-- where no header is
pub lives-nowhere : (w : Window) (horizon turn : ℕ) (slots : List Slot) (n : ℕ) → header_at slots n ≡ None → LivesAt w horizon turn slots n
lives-nowhere w horizon turn slots n none = (
  (λ dead. absurd (let e : None ≡ Some dead.version.header = sym none ∙ ap (option_map (λ (v : Version). v.header)) dead.there in cc)),
  (λ t there. absurd (let e : None ≡ Some t.header = sym none ∙ ap (option_map (λ (v : Version). v.header)) there in cc)),
)

-- the turn of the next id
pub next-turn : (w : Window) (x : ℕ) (o : Option ℕ) (turn : ℕ) → IsWindow w → x ≡ next_id w
    → MatchOption o (¬ IsUpToNext w x) (λ k. IsUpToNext w x × (k ≡ turns w.first x)) → turn ≡ unwrap_or o 0 → turn ≡ length w.entries
next-turn w x None turn is same none e = absurd (none (subst (IsUpToNext w) (sym same) (upto-next w is)))
next-turn w x (Some k) turn is same some e =
    let limit = is.limit in
    let short = is.short in
    let small : length w.entries < 2 ^ 32 - 3 = omega arith in
    e ∙ some.1 ∙ ap (turns w.first) same ∙ turns-given w.first (length w.entries) is.normal is.fits small

-- a turn that is kept, or is that of a deleter that is there
turn-there : (w : Window) (turn turn' : ℕ) (slots : List Slot) (n : ℕ) (h : Header) → header_at slots n ≡ Some h → (turn' ≡ turn) ⊎ IsTurnOf w turn' h.xmax.0
    → IsTurnThere w turn slots → IsTurnThere w turn' slots
turn-there w turn turn' slots n h at (inl same) before = subst (λ k. IsTurnThere w k slots) (sym same) before
turn-there w turn turn' slots n h at (inr own) before =
    let v = some-version (version_at slots n) h at in
    IsTurnThere.of_deleter n v.0 v.1 (subst (λ (g : Header). IsTurnOf w turn' g.xmax.0) (sym v.2) own)

pub outlook-there : (w : Window) (horizon turn : ℕ) (slots : List Slot) (n : ℕ) (h : Header) (o : Option Outlook) → header_at slots n ≡ Some h
    → MatchOption o (IsDead w horizon h)
    (λ u. (¬ IsDead w horizon h) × MayDieFrom w u.turn h × (u.turn ≤ turn) × (¬ IsAborted w u.known.0) × ((u.turn ≡ turn) ⊎ IsTurnOf w u.turn h.xmax.0))
    → MatchOption o (IsDeadAt w horizon slots n)
    (λ u. LivesAt w horizon u.turn slots n × (u.turn ≤ turn) × (¬ IsAborted w u.known.0) × (IsTurnThere w turn slots → IsTurnThere w u.turn slots))
outlook-there w horizon turn slots n h None at dead = dead-there w horizon slots n h at dead
outlook-there w horizon turn slots n h (Some u) at found =
    (lives-there w horizon u.turn slots n h at found.0 found.1, found.2, found.3, turn-there w turn u.turn slots n h at found.4)

-- the versions below a slot are not dead, and may be from this turn on, which is no later than that of the next id
pub record LiveBelow (w : Window) (horizon : ℕ) (slots : List Slot) (bound turn : ℕ) : Type 0 where
  pub reached : turn ≤ length w.entries
  pub each : (n : ℕ) → n < bound → LivesAt w horizon turn slots n

lives-longer : (w : Window) (horizon more turn : ℕ) (slots : List Slot) (n : ℕ) → turn ≤ more → LivesAt w horizon more slots n → LivesAt w horizon turn slots n
lives-longer w horizon more turn slots n le l = (
  l.0,
  λ t there.
      let m = l.1 t there in
      record { kept = m.kept; later = λ given. let later = m.later given in omega arith },
)

no-slot : (w : Window) (horizon turn : ℕ) (slots : List Slot) (n : ℕ) → ¬ SlotIsThere slots n → LivesAt w horizon turn slots n
no-slot w horizon turn slots n none = ((λ dead. none (version-there slots n dead.version dead.there)), (λ t there. absurd (none (version-there slots n t there))))

pub live-none : (w : Window) (horizon : ℕ) (slots : List Slot) (turn : ℕ) → turn ≤ length w.entries → LiveBelow w horizon slots 1 turn
live-none w horizon slots turn reached = record { reached = reached; each = λ n h. no-slot w horizon turn slots n (λ there. let from = there.0 in absurd (omega arith)) }

pub live-more : (w : Window) (horizon : ℕ) (slots : List Slot) (bound more turn : ℕ) → turn ≤ more → LiveBelow w horizon slots bound more → LivesAt w horizon turn slots bound
    → LiveBelow w horizon slots (bound + 1) turn
live-more w horizon slots bound more turn le l at = record {
  reached = let r = l.reached in omega arith;
  each = λ n h. ⊎_elim (λ lt. lives-longer w horizon more turn slots n le (l.each n lt))
      (λ ge. let same : n ≡ bound = omega arith in subst (LivesAt w horizon turn slots) (sym same) at) (cases_lt n bound);
}

pub live-all : (w : Window) (horizon : ℕ) (slots : List Slot) (bound turn : ℕ) → length slots < bound → LiveBelow w horizon slots bound turn
    → (¬ HasDead w horizon slots) × NothingDiesBefore w turn slots
live-all w horizon slots bound turn all l = (
  (λ h. let there = version-there slots h.number h.dead.version h.dead.there in let within = there.1 in (l.each h.number (omega arith)).0 h.dead),
  record { reached = l.reached; each = λ n t at. let there = version-there slots n t at in let within = there.1 in (l.each n (omega arith)).1 t at },
)
