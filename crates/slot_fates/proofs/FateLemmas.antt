-- A version has one fate, and pruning takes it exactly where that says so.
use Rattle.std.proofs.Common.{◌≡◌, ◌⊎◌, ℕ, zero, suc, ◌+◌, ◌-◌, ◌<◌, ◌≤◌, true, false, List, length, get_or, Option, Some, None, arith, inl, inr, ⊎_elim, refl, sym, ap, ◌∙◌, subst, slice_get}
use Rattle.std.specs.Prelude.{◌↔◌}
use Rattle.std.proofs.lemmas.Option.{same_Some, none-some, slice_get_within, get_or_from_slice_get, slice_get-get_or}
use Rattle.page_sheet.specs.declared.slot.Slot.{Slot}
use Rattle.page_sheet.specs.Slots.{version_at}
use Rattle.tuple_header.specs.Version.{Version}
use Rattle.tuple_header.specs.declared.version.Header.{Header}
use Rattle.xid_circle.specs.declared.Xid.{Xid}
use Rattle.commit_status.specs.declared.status.Status.{Status}
use Rattle.commit_status.specs.Window.{Window}
use Rattle.visibility.specs.Visible.{IsDead}
use Rattle.hot_chain.specs.Chain.{has_aborted, IsChain}
use Rattle.hot_chain.proofs.Chains.{chain-one}
use Rattle.xid_circle.specs.Following.{ReachesIn}
use Rattle.sound_page.specs.Links.{Reaches, link}
use Rattle.sound_page.specs.Dead.{IsDeadAt}
use Rattle.sound_page.specs.Sound.{SoundPage}
use Rattle.sound_page.proofs.ChainPlaces.{chain-first, first-normal, reaches-places}
use Rattle.sound_page.proofs.SoundChains.{exact}
use Rattle.prune.specs.Cutting.{IsCutCount, IsCut}
use Rattle.prune.specs.Pruning.{IsPruned}
use Rattle.prune.proofs.Removing.{pruned-removes}
use Rattle.prune.proofs.Spared.{version-kept}
use Rattle.prune.proofs.Unshared.{count-one}
use Rattle.slot_fates.specs.declared.fate.DeletedBy.{DeletedBy}
use Rattle.slot_fates.specs.declared.fate.VersionFate.{VersionFate}
use Rattle.slot_fates.specs.declared.fate.VersionFate.TheVariants.{RolledBack, Deleted, GoesWith, Kept}
use Rattle.slot_fates.specs.Fates.{last_of, IsLastDead, WasRolledBack, WasDeleted, IsDeleter, IsVersionFate, goes}

-- what is last of some is one of them
some-last : (chain : List ℕ) (cut k : ℕ) → Some k ≡ last_of chain cut → (before : ℕ) × (cut ≡ suc before) × (before < length chain) × (get_or chain before 0 ≡ k)
some-last chain zero k e = absurd (none-some k (sym e))
some-last chain (suc before) k e = (before, refl, slice_get_within chain before k (sym e), get_or_from_slice_get chain before k 0 (sym e))

none-last : (w : Window) (horizon : ℕ) (slots : List Slot) (chain : List ℕ) (cut : ℕ) → IsCutCount w horizon slots chain cut → None ≡ last_of chain cut → cut ≡ 0
none-last w horizon slots chain zero c e = refl
none-last w horizon slots chain (suc before) c e =
    absurd (let h : before < length chain = (let l = c.within in omega arith) in none-some (get_or chain before 0) (e ∙ there h))
  where
    there : before < length chain → slice_get chain before ≡ Some (get_or chain before 0)
    there h = slice_get-get_or chain before 0 h

-- a dead version is cut
dead-cut : (w : Window) (horizon : ℕ) (slots : List Slot) (n : ℕ) (t : Version) → version_at slots n ≡ Some t → IsDead w horizon t.header → IsCut w horizon slots n
dead-cut w horizon slots n t at dead = record {
  last = n;
  later = record { turns = 0; along = refl };
  dead = record { version = t; there = at; dead = dead };
}

-- so is one before a dead one in its chain
before-cut : (w : Window) (horizon : ℕ) (slots : List Slot) (n k : ℕ) (t : Version) → version_at slots n ≡ Some t → IsLastDead w horizon slots n (Some k) → IsCut w horizon slots n
before-cut w horizon slots n k t at l =
    let last = some-last l.chain l.cut k l.is_last in
    let first = chain-first (has_aborted w) slots n n l.chain l.is_chain (first-normal slots n t at) in
    let place : l.cut - 1 ≡ last.0 = (let e = last.1 in omega arith) in
    record {
      last = get_or l.chain last.0 0;
      later = subst (λ i. Reaches (link w slots) i (get_or l.chain last.0 0)) first.1
          (reaches-places w slots n l.chain 0 last.0 l.is_chain (omega arith) last.2);
      dead = subst (λ i. IsDeadAt w horizon slots (get_or l.chain i 0)) place (l.is_cut.dead (let e = last.1 in omega arith));
    }

-- and none where no dead one is
none-cut : (w : Window) (horizon : ℕ) (slots : List Slot) (n : ℕ) (t : Version) → SoundPage w slots → version_at slots n ≡ Some t → IsLastDead w horizon slots n None → ¬ IsCut w horizon slots n
none-cut w horizon slots n t sound at l cut =
    let zero_is = none-last w horizon slots l.chain l.cut l.is_cut l.is_last in
    let first = chain-first (has_aborted w) slots n n l.chain l.is_chain (first-normal slots n t at) in
    let later = exact w slots n l.chain 0 cut.later.turns cut.last sound l.is_chain first.0
    (subst (λ i. ReachesIn (link w slots) cut.later.turns i cut.last) (sym first.1) cut.later.along) in
    l.is_cut.none_after (0 + cut.later.turns) (omega arith) later.within (subst (IsDeadAt w horizon slots) later.is cut.dead)

-- What is taken.

cut-gone : (w : Window) (horizon : ℕ) (slots after : List Slot) (n : ℕ) → SoundPage w slots → IsPruned w horizon slots after → IsCut w horizon slots n → version_at after n ≡ None
cut-gone w horizon slots after n sound p cut = of (version_at after n) refl
  where
    of : (o : Option Version) → version_at after n ≡ o → o ≡ None
    of None is = refl
    of (Some t) is = absurd ((version-kept w horizon slots after n t sound p is).1 cut)

taken : {P : Type 0} → P → P ↔ (true ≡ true)
taken {P} gone = (λ p. refl, λ e. gone)

pub fates-decide : (w : Window) (horizon : ℕ) (slots after : List Slot) (n : ℕ) (t : Version) (fate : VersionFate) → SoundPage w slots → IsPruned w horizon slots after
    → version_at slots n ≡ Some t → IsVersionFate w horizon slots n t.header fate → (version_at after n ≡ None) ↔ (goes fate ≡ true)
fates-decide w horizon slots after n t (RolledBack x) sound p at f =
    taken (cut-gone w horizon slots after n sound p (dead-cut w horizon slots n t at (IsDead.never_was f.1.0 f.1.1)))
fates-decide w horizon slots after n t (Deleted x) sound p at f =
    taken (cut-gone w horizon slots after n sound p (dead-cut w horizon slots n t at (IsDead.is_past f.2.0 f.2.1)))
fates-decide w horizon slots after n t (GoesWith later) sound p at f =
    taken (cut-gone w horizon slots after n sound p (before-cut w horizon slots n later t at f.1))
fates-decide w horizon slots after n t (Kept deleter) sound p at f = (
  λ gone. absurd (⊎_elim
      (λ there. none-some t (sym gone ∙ there))
      (none-cut w horizon slots n t sound at f.0)
      ((pruned-removes w horizon slots after p).gone n t at)),
  λ e. absurd (cc),
)

-- There is one.

last-one : (w : Window) (horizon : ℕ) (slots : List Slot) (n : ℕ) (a b : Option ℕ) → IsLastDead w horizon slots n a → IsLastDead w horizon slots n b → a ≡ b
last-one w horizon slots n a b l m =
    let chains : l.chain ≡ m.chain = chain-one (has_aborted w) slots n l.chain m.chain l.is_chain m.is_chain in
    let cuts : l.cut ≡ m.cut = count-one w horizon slots m.chain l.cut m.cut (subst (λ c. IsCutCount w horizon slots c l.cut) chains l.is_cut) m.is_cut in
    l.is_last ∙ ap (λ c. last_of c l.cut) chains ∙ ap (last_of m.chain) cuts ∙ sym m.is_last

abbrev pub deleter_with : Xid → Status → DeletedBy
deleter_with id status = record { id = id; status = status }

deleter-one : (w : Window) (h : Header) (a b : Option DeletedBy) → IsDeleter w h a → IsDeleter w h b → a ≡ b
deleter-one w h None None d e = refl
deleter-one w h None (Some b) d e = absurd (e.0 d)
deleter-one w h (Some a) None d e = absurd (d.0 e)
deleter-one w h (Some a) (Some b) d e =
    ap (λ id. Some (deleter_with id a.status)) (d.1 ∙ sym e.1) ∙ ap (λ status. Some (deleter_with b.id status)) (d.2 ∙ sym e.2)

is-dead : (w : Window) (horizon : ℕ) (h : Header) → WasRolledBack w h ⊎ WasDeleted w horizon h → IsDead w horizon h
is-dead w horizon h (inl gone) = IsDead.never_was gone.0 gone.1
is-dead w horizon h (inr past) = IsDead.is_past past.0 past.1

-- the version itself is first in its chain
alive : (w : Window) (horizon : ℕ) (slots : List Slot) (n : ℕ) (t : Version) → version_at slots n ≡ Some t → IsLastDead w horizon slots n None → ¬ IsDead w horizon t.header
alive w horizon slots n t at l dead =
    let zero_is = none-last w horizon slots l.chain l.cut l.is_cut l.is_last in
    let first = chain-first (has_aborted w) slots n n l.chain l.is_chain (first-normal slots n t at) in
    l.is_cut.none_after 0 (omega arith) first.0 (subst (IsDeadAt w horizon slots) (sym first.1) (record { version = t; there = at; dead = dead }))

pub fate-one : (w : Window) (horizon : ℕ) (slots : List Slot) (n : ℕ) (t : Version) (a b : VersionFate) → version_at slots n ≡ Some t
    → IsVersionFate w horizon slots n t.header a → IsVersionFate w horizon slots n t.header b → a ≡ b
fate-one w horizon slots n t (RolledBack x) (RolledBack y) at f g = ap RolledBack (f.0 ∙ sym g.0)
fate-one w horizon slots n t (RolledBack x) (Deleted y) at f g = absurd (g.1 f.1)
fate-one w horizon slots n t (RolledBack x) (GoesWith k) at f g = absurd (g.0 (is-dead w horizon t.header (inl f.1)))
fate-one w horizon slots n t (RolledBack x) (Kept d) at f g = absurd (alive w horizon slots n t at g.0 (is-dead w horizon t.header (inl f.1)))
fate-one w horizon slots n t (Deleted x) (RolledBack y) at f g = absurd (f.1 g.1)
fate-one w horizon slots n t (Deleted x) (Deleted y) at f g = ap Deleted (f.0 ∙ sym g.0)
fate-one w horizon slots n t (Deleted x) (GoesWith k) at f g = absurd (g.0 (is-dead w horizon t.header (inr f.2)))
fate-one w horizon slots n t (Deleted x) (Kept d) at f g = absurd (alive w horizon slots n t at g.0 (is-dead w horizon t.header (inr f.2)))
fate-one w horizon slots n t (GoesWith k) (RolledBack y) at f g = absurd (f.0 (is-dead w horizon t.header (inl g.1)))
fate-one w horizon slots n t (GoesWith k) (Deleted y) at f g = absurd (f.0 (is-dead w horizon t.header (inr g.2)))
fate-one w horizon slots n t (GoesWith k) (GoesWith j) at f g = ap GoesWith (same_Some k j (last-one w horizon slots n (Some k) (Some j) f.1 g.1))
fate-one w horizon slots n t (GoesWith k) (Kept d) at f g = absurd (none-some k (last-one w horizon slots n None (Some k) g.0 f.1))
fate-one w horizon slots n t (Kept d) (RolledBack y) at f g = absurd (alive w horizon slots n t at f.0 (is-dead w horizon t.header (inl g.1)))
fate-one w horizon slots n t (Kept d) (Deleted y) at f g = absurd (alive w horizon slots n t at f.0 (is-dead w horizon t.header (inr g.2)))
fate-one w horizon slots n t (Kept d) (GoesWith k) at f g = absurd (none-some k (last-one w horizon slots n None (Some k) f.0 g.1))
fate-one w horizon slots n t (Kept d) (Kept e) at f g = ap Kept (deleter-one w t.header d e f.1 g.1)
