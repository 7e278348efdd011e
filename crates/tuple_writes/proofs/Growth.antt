-- A write leaves a page sound.
use Rattle.std.proofs.Common.{◌≡◌, ◌≢◌, ◌⊎◌, ◌≤◌, ℕ, zero, suc, Bool, true, false, List, length, Option, Some, None, if◌then◌else◌, inl, inr, ⊎_elim, sym, ap, ◌∙◌, refl, subst}
use Rattle.std.proofs.lemmas.Bool.{cases_Bool, not-true}
use Rattle.std.proofs.lemmas.Option.{same_Some}
use Rattle.page_sheet.specs.declared.slot.Slot.{Slot}
use Rattle.page_sheet.specs.declared.slot.Slot.TheVariants.{Unused, Normal, Redirect, Dead}
use Rattle.page_sheet.specs.Slots.{slot_at, version_at}
use Rattle.page_sheet.proofs.SlotLemmas.{slot_at-from_version_at, version_at-from_slot_at}
use Rattle.tuple_header.specs.Version.{Version}
use Rattle.tuple_header.specs.declared.version.Header.{Header}
use Rattle.tuple_header.specs.Marks.{is_frozen, is_heap_only}
use Rattle.xid_circle.specs.Following.{ReachesIn}
use Rattle.commit_status.specs.declared.status.Status.TheVariants.{InProgress, Committed, Aborted}
use Rattle.commit_status.specs.Window.{Window, IsCommitted, IsAborted, IsInProgress}
use Rattle.visibility.specs.Visible.{IsFrozen}
use Rattle.hot_chain.specs.Chain.{has_aborted, is_replaced, is_root_in}
use Rattle.sound_page.specs.Links.{link, Reaches}
use Rattle.sound_page.specs.Sound.{chain_start_in, chain_start_of, IsIn, IsTarget, SomeRoot, SomeNext, SoundPage}
use Rattle.sound_page.proofs.Links.{link-of}
use Rattle.sound_page.proofs.Undone.{committed-some}
use Rattle.sound_page.proofs.SoundChains.{plain-root}
use Rattle.tuple_writes.specs.Keeps.{IsMade, KeepsEntries}

-- a version before and after
pub record IsSameVersion (w : Window) (t u : Version) : Type 0 where
  pub row : u.row ≡ t.row
  pub inserter : u.header.xmin.0 ≡ t.header.xmin.0
  pub frozen : is_frozen u.header ≡ is_frozen t.header
  pub heap_only : is_heap_only u.header ≡ is_heap_only t.header
  -- its deleter is the same, or in progress
  pub deleter : (u.header.xmax.0 ≡ t.header.xmax.0) ⊎ (IsInProgress w u.header.xmax.0 × IsMade w t.header)

pub record HadVersion (w : Window) (slots : List Slot) (m : ℕ) (u : Version) : Type 0 where
  pub old : Version
  pub there : version_at slots m ≡ Some old
  pub same : IsSameVersion w old u

pub record HasVersion (w : Window) (after : List Slot) (m : ℕ) (t : Version) : Type 0 where
  pub new : Version
  pub there : version_at after m ≡ Some new
  pub same : IsSameVersion w t new

-- a version that an id in progress has just made
pub record IsNew (w : Window) (slots : List Slot) (m : ℕ) (u : Version) : Type 0 where
  pub fresh : version_at slots m ≡ None
  pub inserter : IsInProgress w u.header.xmin.0
  pub deleter : u.header.xmax.0 ≡ 0
  pub thawed : is_frozen u.header ≡ false

-- a new link, from the version that was replaced to the new one
pub record IsNewLink (w : Window) (slots : List Slot) (n k a b : ℕ) : Type 0 where
  pub from : a ≡ n
  pub to : b ≡ k
  pub fresh : version_at slots k ≡ None
  pub old : Version
  pub there : version_at slots n ≡ Some old
  pub made : IsMade w old.header

-- what a write does, that replaces the version in slot n by one in slot k, or does one half of that
pub record IsWrite (w : Window) (slots after : List Slot) (n k : ℕ) : Type 0 where
  pub few : length after ≤ 291
  pub kept : (m : ℕ) (t : Version) → version_at slots m ≡ Some t → HasVersion w after m t
  pub was : (m : ℕ) (u : Version) → version_at after m ≡ Some u → HadVersion w slots m u ⊎ IsNew w slots m u
  pub redirect_kept : (m j : ℕ) → slot_at slots m ≡ Some (Redirect j) → slot_at after m ≡ Some (Redirect j)
  pub redirect_was : (m j : ℕ) → slot_at after m ≡ Some (Redirect j) → slot_at slots m ≡ Some (Redirect j)
  pub forth : (a b : ℕ) → link w slots a ≡ Some b → link w after a ≡ Some b
  pub back : (a b : ℕ) → link w after a ≡ Some b → (link w slots a ≡ Some b) ⊎ IsNewLink w slots n k a b
  pub whole : (m : ℕ) (u : Version) → version_at after m ≡ Some u → is_replaced (has_aborted w) u.header ≡ true → SomeNext w after m
  -- a new heap-only version is linked
  pub linked : (m : ℕ) (u : Version) → version_at after m ≡ Some u → version_at slots m ≡ None → is_heap_only u.header ≡ true
      → IsNewLink w slots n k n m × (link w after n ≡ Some m)

pub none-some : {A : Type 0} {P : Type 0} (o : Option A) (x : A) → o ≡ None → o ≡ Some x → P
none-some o x e f = absurd (let g : None ≡ Some x = sym e ∙ f in cc)

-- Links.

pub from-version : (w : Window) (slots : List Slot) (a b : ℕ) → link w slots a ≡ Some b → (t : Version) × (version_at slots a ≡ Some t)
from-version w slots a b e = let l = link-of (has_aborted w) slots a b e in (l.old, l.from)

pub to-version : (w : Window) (slots : List Slot) (a b : ℕ) → link w slots a ≡ Some b → (t : Version) × (version_at slots b ≡ Some t)
to-version w slots a b e = let l = link-of (has_aborted w) slots a b e in (l.new, l.to)

-- a new version leads on to none
new-last : (w : Window) (slots after : List Slot) (n k a b : ℕ) → IsWrite w slots after n k → version_at slots a ≡ None → ¬ (link w after a ≡ Some b)
new-last w slots after n k a b g fresh next =
    let l = link-of (has_aborted w) after a b next in
    ⊎_elim (λ old. none-some (version_at slots a) old.old fresh old.there) (λ new. l.deleter new.deleter) (g.was a l.old l.from)

along-forth : (w : Window) (slots after : List Slot) (n k i a b : ℕ) → IsWrite w slots after n k → ReachesIn (link w slots) i a b → ReachesIn (link w after) i a b
along-forth w slots after n k zero a b g same = same
along-forth w slots after n k (suc i) a b g along = (along.0, g.forth a along.0 along.1, along-forth w slots after n k i along.0 b g along.2)

reaches-forth : (w : Window) (slots after : List Slot) (n k a b : ℕ) → IsWrite w slots after n k → Reaches (link w slots) a b → Reaches (link w after) a b
reaches-forth w slots after n k a b g r = record { turns = r.turns; along = along-forth w slots after n k r.turns a b g r.along }

along-on : (next : ℕ → Option ℕ) (i a b c : ℕ) → ReachesIn next i a b → next b ≡ Some c → Reaches next a c
along-on next zero a b c same e = record { turns = 1; along = (c, ap next same ∙ e, refl) }
along-on next (suc i) a b c along e = let r = along-on next i along.0 b c along.2 e in record { turns = suc r.turns; along = (along.0, along.1, r.along) }

step-before : (next : ℕ → Option ℕ) (a j b : ℕ) → next a ≡ Some j → Reaches next j b → Reaches next a b
step-before next a j b e r = record { turns = suc r.turns; along = (j, e, r.along) }

-- a slot that was free, and holds a heap-only version now
pub record IsAdded (slots after : List Slot) (k : ℕ) : Type 0 where
  pub fresh : version_at slots k ≡ None
  pub new : Version
  pub there : version_at after k ≡ Some new
  pub heap_only : is_heap_only new.header ≡ true

-- what is reached afterwards was reached, or is the new version behind one that was
pub record EndsNew (w : Window) (slots after : List Slot) (n k a b : ℕ) : Type 0 where
  pub to : b ≡ k
  pub added : IsAdded slots after k
  pub reaches : Reaches (link w slots) a n

back-ends : (w : Window) (slots after : List Slot) (n k turns j b : ℕ) → IsWrite w slots after n k → version_at slots j ≡ None → ReachesIn (link w after) turns j b → b ≡ j
back-ends w slots after n k zero j b g fresh same = sym same
back-ends w slots after n k (suc turns) j b g fresh r = absurd (new-last w slots after n k j r.0 g fresh r.1)

back-old : (w : Window) (slots after : List Slot) (n k a j b : ℕ) → link w slots a ≡ Some j
    → Reaches (link w slots) j b ⊎ EndsNew w slots after n k j b → Reaches (link w slots) a b ⊎ EndsNew w slots after n k a b
back-old w slots after n k a j b e rest = ⊎_elim
    (λ r. inl (step-before (link w slots) a j b e r))
    (λ x. inr (record { to = x.to; added = x.added; reaches = step-before (link w slots) a j n e x.reaches }))
    rest

back-new : (w : Window) (slots after : List Slot) (n k turns a j b : ℕ) → IsWrite w slots after n k → link w after a ≡ Some j → ReachesIn (link w after) turns j b
    → IsNewLink w slots n k a j → EndsNew w slots after n k a b
back-new w slots after n k turns a j b g next rest x =
    let l = link-of (has_aborted w) after a j next in record {
      to = back-ends w slots after n k turns j b g (ap (version_at slots) x.to ∙ x.fresh) rest ∙ x.to;
      added = record { fresh = x.fresh; new = l.new; there = ap (version_at after) (sym x.to) ∙ l.to; heap_only = l.heap_only };
      reaches = record { turns = 0; along = x.from };
    }

along-back : (w : Window) (slots after : List Slot) (n k i a b : ℕ) → IsWrite w slots after n k → ReachesIn (link w after) i a b
    → Reaches (link w slots) a b ⊎ EndsNew w slots after n k a b
along-back w slots after n k zero a b g same = inl (record { turns = 0; along = same })
along-back w slots after n k (suc i) a b g along = ⊎_elim
    (λ e. back-old w slots after n k a along.0 b e (along-back w slots after n k i along.0 b g along.2))
    (λ x. inr (back-new w slots after n k i a along.0 b g along.1 along.2 x))
    (g.back a along.0 along.1)

-- a slot with no version reaches itself alone
unmoved : (w : Window) (slots : List Slot) (i a b : ℕ) → version_at slots a ≡ None → ReachesIn (link w slots) i a b → b ≡ a
unmoved w slots zero a b fresh same = sym same
unmoved w slots (suc i) a b fresh along = let v = from-version w slots a along.0 along.1 in none-some (version_at slots a) v.0 fresh v.1

grown-ends : (w : Window) (slots after : List Slot) (n k a b : ℕ) → SoundPage w slots → IsWrite w slots after n k
    → link w after a ≡ Some b → ¬ Reaches (link w after) b a
grown-ends w slots after n k a b sound g next r = ⊎_elim old new (g.back a b next)
  where
    not-new : {P : Type 0} → a ≡ k → version_at slots k ≡ None → P
    not-new to fresh = absurd (new-last w slots after n k a b g (ap (version_at slots) to ∙ fresh) next)

    old : link w slots a ≡ Some b → ⊥
    old e = ⊎_elim (λ s. sound.ends a b e s) (λ x. not-new x.to x.added.fresh) (along-back w slots after n k r.turns b a g r.along)

    new : IsNewLink w slots n k a b → ⊥
    new x = ⊎_elim
        (λ s. let back = unmoved w slots s.turns b a (ap (version_at slots) x.to ∙ x.fresh) s.along in not-new (back ∙ x.to) x.fresh)
        (λ y. not-new y.to y.added.fresh) (along-back w slots after n k r.turns b a g r.along)

-- Entries.

redirected : (o : Option Slot) (n e : ℕ) → chain_start_in n o ≡ Some e
    → ((t : Version) × (o ≡ Some (Normal t)) × (is_heap_only t.header ≡ false) × (n ≡ e)) ⊎ (o ≡ Some (Redirect e))
redirected None n e h = absurd (cc)
redirected (Some Unused) n e h = absurd (cc)
redirected (Some (Normal t)) n e h = inl (plain (is_heap_only t.header) refl h)
  where
    plain : (b : Bool) → is_heap_only t.header ≡ b → (if b then None else Some n) ≡ Some e
        → (u : Version) × (Some (Normal t) ≡ Some (Normal u)) × (is_heap_only u.header ≡ false) × (n ≡ e)
    plain true is f = absurd (cc)
    plain false is f = (t, refl, is, same_Some n e f)
redirected (Some (Redirect k)) n e h = inr (let f : k ≡ e = same_Some k e h in cc)
redirected (Some Dead) n e h = absurd (cc)

pub entry-normal : (slots : List Slot) (n : ℕ) (t : Version) → version_at slots n ≡ Some t → is_heap_only t.header ≡ false → chain_start_of slots n ≡ Some n
entry-normal slots n t at plain = rw (slot_at-from_version_at slots n t at, plain) refl

entry-redirect : (slots : List Slot) (n e : ℕ) → slot_at slots n ≡ Some (Redirect e) → chain_start_of slots n ≡ Some e
entry-redirect slots n e at = rw at refl

entry-forth : (w : Window) (slots after : List Slot) (n k a e : ℕ) → IsWrite w slots after n k → chain_start_of slots a ≡ Some e → chain_start_of after a ≡ Some e
entry-forth w slots after n k a e g h = ⊎_elim
    (λ x. let u = g.kept a x.0 (version_at-from_slot_at slots a x.0 x.1) in entry-normal after a u.new u.there (u.same.heap_only ∙ x.2) ∙ ap (λ (i : ℕ). Some i) x.3)
    (λ at. entry-redirect after a e (g.redirect_kept a e at))
    (redirected (slot_at slots a) a e h)

-- a root that was none is the new version
pub record IsNewRoot (slots after : List Slot) (a e : ℕ) : Type 0 where
  pub itself : a ≡ e
  pub fresh : version_at slots a ≡ None
  pub version : Version
  pub there : version_at after a ≡ Some version
  pub plain : is_heap_only version.header ≡ false

entry-back : (w : Window) (slots after : List Slot) (n k a e : ℕ) → IsWrite w slots after n k → chain_start_of after a ≡ Some e
    → (chain_start_of slots a ≡ Some e) ⊎ IsNewRoot slots after a e
entry-back w slots after n k a e g h = ⊎_elim
    (λ x. let at = version_at-from_slot_at after a x.0 x.1 in ⊎_elim
    (λ u. inl (entry-normal slots a u.old u.there (sym u.same.heap_only ∙ x.2) ∙ ap (λ (i : ℕ). Some i) x.3))
    (λ new. inr (record { itself = x.3; fresh = new.fresh; version = x.0; there = at; plain = x.2 })) (g.was a x.0 at))
    (λ at. inl (entry-redirect slots a e (g.redirect_was a e at)))
    (redirected (slot_at after a) a e h)

-- Chains.

pub in-forth : (w : Window) (slots after : List Slot) (n k root m : ℕ) → IsWrite w slots after n k → IsIn w slots root m → IsIn w after root m
in-forth w slots after n k root m g i = record {
  entry = i.entry;
  leads = entry-forth w slots after n k root i.entry g i.leads;
  later = reaches-forth w slots after n k i.entry m g i.later;
}

pub in-on : (w : Window) (slots : List Slot) (root n k : ℕ) → IsIn w slots root n → link w slots n ≡ Some k → IsIn w slots root k
in-on w slots root n k i next = record { entry = i.entry; leads = i.leads; later = along-on (link w slots) i.later.turns i.entry n k i.later.along next }

-- each slot of a chain holds a version
in-version : (w : Window) (slots : List Slot) (root m : ℕ) → SoundPage w slots → IsIn w slots root m → (t : Version) × (version_at slots m ≡ Some t)
in-version w slots root m sound i = behind i.later.turns i.entry first i.later.along
  where
    first : (t : Version) × (version_at slots i.entry ≡ Some t)
    first = ⊎_elim
        (λ x. (x.0, ap (version_at slots) (sym x.3) ∙ version_at-from_slot_at slots root x.0 x.1))
        (λ at. let t = sound.redirects root i.entry at in (t.version, t.there))
        (redirected (slot_at slots root) root i.entry i.leads)

    behind : (turns a : ℕ) → (t : Version) × (version_at slots a ≡ Some t) → ReachesIn (link w slots) turns a m → (t : Version) × (version_at slots m ≡ Some t)
    behind zero a v same = (v.0, ap (version_at slots) (sym same) ∙ v.1)
    behind (suc turns) a v along = behind turns along.0 (to-version w slots a along.0 along.1) along.2

-- a slot that is in a chain afterwards was in it, or is new behind one that was, or is a new root
pub data IsInBy (w : Window) (slots after : List Slot) (n k root m : ℕ) : Type 0 where
  before : IsIn w slots root m → IsInBy w slots after n k root m
  behind : m ≡ k → IsAdded slots after k → IsIn w slots root n → IsInBy w slots after n k root m
  itself : m ≡ root → IsNewRoot slots after root root → IsInBy w slots after n k root m

pub in-back : (w : Window) (slots after : List Slot) (n k root m : ℕ) → IsWrite w slots after n k → IsIn w after root m → IsInBy w slots after n k root m
in-back w slots after n k root m g i = ⊎_elim old new (entry-back w slots after n k root i.entry g i.leads)
  where
    old : chain_start_of slots root ≡ Some i.entry → IsInBy w slots after n k root m
    old leads = ⊎_elim
        (λ r. IsInBy.before (record { entry = i.entry; leads = leads; later = r }))
        (λ x. IsInBy.behind x.to x.added (record { entry = i.entry; leads = leads; later = x.reaches }))
        (along-back w slots after n k i.later.turns i.entry m g i.later.along)

    new : IsNewRoot slots after root i.entry → IsInBy w slots after n k root m
    new x = IsInBy.itself (back-ends w slots after n k i.later.turns i.entry m g (ap (version_at slots) (sym x.itself) ∙ x.fresh) i.later.along ∙ sym x.itself)
        (record { itself = refl; fresh = x.fresh; version = x.version; there = x.there; plain = x.plain })

-- a new version is heap-only or a root
apart : (slots after : List Slot) (k a : ℕ) → IsAdded slots after k → IsNewRoot slots after a a → k ≡ a → ⊥
apart slots after k a added r same =
    let one : added.new ≡ r.version = same_Some added.new r.version (sym added.there ∙ ap (version_at after) same ∙ r.there) in
    let e : true ≡ false = sym added.heap_only ∙ ap (λ (v : Version). is_heap_only v.header) one ∙ r.plain in
    absurd (cc)

grown-alone : (w : Window) (slots after : List Slot) (n k a b m : ℕ) → SoundPage w slots
    → IsInBy w slots after n k a m → IsInBy w slots after n k b m → a ≡ b
grown-alone w slots after n k a b m sound (IsInBy.before x) (IsInBy.before y) = sound.alone a b m x y
grown-alone w slots after n k a b m sound (IsInBy.before x) (IsInBy.behind to added y) =
    let v = in-version w slots a m sound x in none-some (version_at slots m) v.0 (ap (version_at slots) to ∙ added.fresh) v.1
grown-alone w slots after n k a b m sound (IsInBy.before x) (IsInBy.itself same r) =
    let v = in-version w slots a m sound x in none-some (version_at slots m) v.0 (ap (version_at slots) same ∙ r.fresh) v.1
grown-alone w slots after n k a b m sound (IsInBy.behind to added x) (IsInBy.before y) =
    let v = in-version w slots b m sound y in none-some (version_at slots m) v.0 (ap (version_at slots) to ∙ added.fresh) v.1
grown-alone w slots after n k a b m sound (IsInBy.behind to added x) (IsInBy.behind again _ y) = sound.alone a b n x y
grown-alone w slots after n k a b m sound (IsInBy.behind to added x) (IsInBy.itself same r) = absurd (apart slots after k b added r (sym to ∙ same))
grown-alone w slots after n k a b m sound (IsInBy.itself same r) (IsInBy.before y) =
    let v = in-version w slots b m sound y in none-some (version_at slots m) v.0 (ap (version_at slots) same ∙ r.fresh) v.1
grown-alone w slots after n k a b m sound (IsInBy.itself same r) (IsInBy.behind to added y) = absurd (apart slots after k a added r (sym to ∙ same))
grown-alone w slots after n k a b m sound (IsInBy.itself x _) (IsInBy.itself y _) = sym x ∙ y

-- a version that is neither frozen nor undone
made-not_undone : (w : Window) (h : Header) → IsMade w h → ¬ (¬ IsFrozen h × IsAborted w h.xmin.0)
made-not_undone w h made gone = ⊎_elim (λ f. gone.0 f)
    (λ x. ⊎_elim (λ c. let e : Committed ≡ Aborted = sym c ∙ gone.1 in absurd (cc)) (λ p. let e : InProgress ≡ Aborted = sym p ∙ gone.1 in absurd (cc)) x) made

-- the new heap-only version is in the chain of the one that it replaces
grown-owned : (w : Window) (slots after : List Slot) (n k m : ℕ) → SoundPage w slots → IsWrite w slots after n k
    → IsNewLink w slots n k n m → link w after n ≡ Some m → SomeRoot w after m
grown-owned w slots after n k m sound g x next = ⊎_elim
    (λ heap_only. ⊎_elim (λ gone. absurd (made-not_undone w x.old.header x.made gone))
    (λ r. record { root = r.root; leads = in-on w after r.root n m (in-forth w slots after n k r.root n g r.leads) next })
    (sound.owned n x.old x.there heap_only))
    (λ plain. record {
      root = n;
      leads = in-on w after n n m (in-forth w slots after n k n n g (record {
        entry = n;
        leads = entry-normal slots n x.old x.there plain;
        later = record { turns = 0; along = refl };
      })) next;
    })
    (cases_Bool (is_heap_only x.old.header))

to-frozen : (w : Window) (t u : Version) → IsSameVersion w t u → IsFrozen t.header → IsFrozen u.header
to-frozen w t u s f = s.frozen ∙ f

from-frozen : (w : Window) (t u : Version) → IsSameVersion w t u → IsFrozen u.header → IsFrozen t.header
from-frozen w t u s f = sym s.frozen ∙ f

grown-made : (w : Window) (slots after : List Slot) (n k m : ℕ) (u : Version) → SoundPage w slots → IsWrite w slots after n k
    → version_at after m ≡ Some u → IsCommitted w u.header.xmax.0 → IsFrozen u.header ⊎ IsCommitted w u.header.xmin.0
grown-made w slots after n k m u sound g at done = ⊎_elim old (λ new. absurd (committed-some w u.header.xmax.0 done new.deleter)) (g.was m u at)
  where
    old : HadVersion w slots m u → IsFrozen u.header ⊎ IsCommitted w u.header.xmin.0
    old h = ⊎_elim
        (λ same. ⊎_elim (λ f. inl (to-frozen w h.old u h.same f)) (λ c. inr (subst (IsCommitted w) (sym h.same.inserter) c))
        (sound.made m h.old h.there (subst (IsCommitted w) same done)))
        (λ x. let e : Committed ≡ InProgress = sym done ∙ x.0 in absurd (cc))
        h.same.deleter

grown-undone : (w : Window) (slots after : List Slot) (n k m : ℕ) (u : Version) → SoundPage w slots → IsWrite w slots after n k
    → version_at after m ≡ Some u → ¬ IsFrozen u.header → IsAborted w u.header.xmin.0 → u.header.xmax.0 ≢ 0 → IsAborted w u.header.xmax.0
grown-undone w slots after n k m u sound g at thawed gone some = ⊎_elim old (λ new. absurd (some new.deleter)) (g.was m u at)
  where
    old : HadVersion w slots m u → IsAborted w u.header.xmax.0
    old h =
        let undone : ¬ IsFrozen h.old.header × IsAborted w h.old.header.xmin.0 = (λ f. thawed (to-frozen w h.old u h.same f), subst (IsAborted w) h.same.inserter gone) in
        ⊎_elim
        (λ same. subst (IsAborted w) (sym same) (sound.undone m h.old h.there undone.0 undone.1 (λ e. some (same ∙ e))))
        (λ x. absurd (made-not_undone w h.old.header x.1 undone))
        h.same.deleter

grown-unfrozen : (w : Window) (slots after : List Slot) (n k a b : ℕ) (u : Version) → SoundPage w slots → IsWrite w slots after n k
    → link w after a ≡ Some b → version_at after b ≡ Some u → ¬ IsFrozen u.header
grown-unfrozen w slots after n k a b u sound g next at f = ⊎_elim old (λ new. let e : true ≡ false = sym f ∙ new.thawed in absurd (cc)) (g.was b u at)
  where
    old : HadVersion w slots b u → ⊥
    old h = ⊎_elim
        (λ e. sound.unfrozen a b h.old e h.there (from-frozen w h.old u h.same f))
        (λ x. none-some (version_at slots b) h.old (ap (version_at slots) x.to ∙ x.fresh) h.there)
        (g.back a b next)

grown-target : (w : Window) (slots after : List Slot) (n k j : ℕ) → IsWrite w slots after n k → IsTarget w slots j → IsTarget w after j
grown-target w slots after n k j g t =
    let h = g.kept j t.version t.there in record {
      version = h.new;
      there = h.there;
      heap_only = h.same.heap_only ∙ t.heap_only;
      made = ⊎_elim (λ f. inl (to-frozen w t.version h.new h.same f)) (λ c. inr (subst (IsCommitted w) (sym h.same.inserter) c)) t.made;
    }

pub write-sound : (w : Window) (slots after : List Slot) (n k : ℕ) → SoundPage w slots → IsWrite w slots after n k → SoundPage w after
write-sound w slots after n k sound g = record {
  few = g.few;
  made = λ m u at done. grown-made w slots after n k m u sound g at done;
  undone = λ m u at thawed gone some. grown-undone w slots after n k m u sound g at thawed gone some;
  unfrozen = λ a b u next at. grown-unfrozen w slots after n k a b u sound g next at;
  whole = g.whole;
  ends = λ a b next. grown-ends w slots after n k a b sound g next;
  redirects = λ m j at. grown-target w slots after n k j g (sound.redirects m j (g.redirect_was m j at));
  owned = λ m u at h. ⊎_elim
      (λ old. ⊎_elim
      (λ gone. inl (λ f. gone.0 (from-frozen w old.old u old.same f), subst (IsAborted w) (sym old.same.inserter) gone.1))
      (λ r. inr (record { root = r.root; leads = in-forth w slots after n k r.root m g r.leads }))
      (sound.owned m old.old old.there (sym old.same.heap_only ∙ h)))
      (λ new. let x = g.linked m u at new.fresh h in inr (grown-owned w slots after n k m sound g x.0 x.1))
      (g.was m u at);
  alone = λ a b m x y. grown-alone w slots after n k a b m sound (in-back w slots after n k a m g x) (in-back w slots after n k b m g y);
}

-- Index entries.

root-cases : (o : Option Slot) → is_root_in o ≡ true → ((t : Version) × (o ≡ Some (Normal t)) × (is_heap_only t.header ≡ false)) ⊎ ((j : ℕ) × (o ≡ Some (Redirect j)))
root-cases None e = absurd (cc)
root-cases (Some Unused) e = absurd (cc)
root-cases (Some (Normal t)) e = inl (t, refl, not-true (is_heap_only t.header) e)
root-cases (Some (Redirect j)) e = inr (j, refl)
root-cases (Some Dead) e = absurd (cc)

pub write-entries : (w : Window) (slots after : List Slot) (n k : ℕ) → IsWrite w slots after n k → KeepsEntries w slots after
write-entries w slots after n k g = record {
  roots = λ m starts. ⊎_elim
      (λ x. let h = g.kept m x.0 (version_at-from_slot_at slots m x.0 x.1) in plain-root after m h.new h.there (h.same.heap_only ∙ x.2))
      (λ x. let at = g.redirect_kept m x.0 x.1 in rw at refl)
      (root-cases (slot_at slots m) starts);
  chains = λ root m i. in-forth w slots after n k root m g i;
  versions = λ m t at. let h = g.kept m t at in record { version = h.new; there = h.there; row = h.same.row; inserter = h.same.inserter };
}
