-- A sound page stays sound where a prefix of each chain goes, with the same chains as far as they are kept.
use Rattle.std.proofs.Common.{◌≡◌, ◌⊎◌, ℕ, zero, suc, ◌+◌, ◌<◌, ◌≤◌, true, false, List, length, get_or, Option, Some, None, arith, inl, inr, ⊎_elim, sym, ap, ◌∙◌, refl, subst, slice_get}
use Rattle.std.specs.Option.{option_and_then}
use Rattle.std.proofs.lemmas.Bool.{cases_lt, cases_Bool}
use Rattle.std.proofs.lemmas.Option.{slice_get_within, get_or_from_slice_get, slice_get-get_or, same_Some, none-some}
use Rattle.page_sheet.specs.declared.slot.Slot.{Slot}
use Rattle.page_sheet.specs.declared.slot.Slot.TheVariants.{Unused, Normal, Redirect, Dead}
use Rattle.page_sheet.specs.Slots.{slot_at, version_at, version_of, SlotIsThere}
use Rattle.page_sheet.proofs.SlotLemmas.{there-from_slot_at, version_at-from_slot_at, slot_at-from_version_at}
use Rattle.tuple_header.specs.Version.{Version}
use Rattle.xid_circle.specs.Following.{ReachesIn}
use Rattle.commit_status.specs.declared.status.Status.TheVariants.{Committed, Aborted}
use Rattle.commit_status.specs.Window.{Window, IsCommitted, IsAborted}
use Rattle.visibility.specs.Visible.{IsFrozen}
use Rattle.hot_chain.specs.Chain.{has_aborted, is_root, is_root_in, IsChain}
use Rattle.prune_actions.specs.declared.Action.TheVariants as action
use Rattle.prune.specs.Actions.{acted}
use Rattle.prune.specs.Cutting.{IsCut}
use Rattle.prune.specs.Pruning.{root_action}
use Rattle.prune.specs.Thinning.{IsShortened, IsThinned, StaysOrGoes}
use Rattle.sound_page.specs.Links.{Reaches, link}
use Rattle.sound_page.specs.Readers.{IsPageReader}
use Rattle.sound_page.specs.Sound.{chain_start_in, chain_start_of, IsIn, IsTarget, SoundPage, lead, KeepsRoots, KeepsChains}
use Rattle.sound_page.proofs.Links.{IsLink, link-of, member-version}
use Rattle.sound_page.proofs.ChainPlaces.{chain-first, reaches-places}
use Rattle.sound_page.proofs.SoundChains.{chain-exists, exact, entry-root, entry-first, first-entry}
use Rattle.sound_page.proofs.Undone.{IsUndoneAt, aborted-has}
use Rattle.prune.proofs.PlanChecks.{prefix-target}
use Rattle.prune.proofs.Unseen.{IsGone, cut-cases}
use Rattle.prune.proofs.ThinnedLemmas.{place-kept, next-before, next-after, reaches-before, reaches-after}

-- Roots.

-- what a redirect was: one already, or a root of whose chain a prefix goes
data Led (w : Window) (horizon : ℕ) (slots after : List Slot) (n k : ℕ) : Type 0 where
  before : slot_at slots n ≡ Some (Redirect k) → Led w horizon slots after n k
  now : (chain : List ℕ) (prefix : ℕ) → is_root slots n ≡ true → IsChain (has_aborted w) slots n chain → IsShortened w horizon slots after n chain prefix → 0 < prefix → prefix < length chain
      → get_or chain prefix 0 ≡ k → Led w horizon slots after n k

-- what an entry led to before
record Entered (w : Window) (slots : List Slot) (root entry : ℕ) : Type 0 where
  first : ℕ
  leads : chain_start_of slots root ≡ Some first
  later : Reaches (link w slots) first entry

through : (next : ℕ → Option ℕ) (i n p k : ℕ) → ReachesIn next i n p → Reaches next p k → Reaches next n k
through next zero n p k same r = subst (λ a. Reaches next a k) (sym same) r
through next (suc i) n p k along r =
    let rest = through next i along.0 p k along.2 r in
    record { turns = suc rest.turns; along = (along.0, along.1, rest.along) }

entry-after : (w : Window) (slots after : List Slot) (root prefix : ℕ) (chain : List ℕ) → is_root slots root ≡ true → IsChain (has_aborted w) slots root chain
    → prefix < length chain → slot_at after root ≡ acted (slot_at slots root) (root_action prefix (slice_get chain prefix)) → chain_start_of after root ≡ Some (get_or chain prefix 0)
entry-after w slots after root zero chain starts c within is =
    ap (chain_start_in root) is ∙ first-entry slots root (get_or chain 0 0) starts (sym c.start ∙ slice_get-get_or chain 0 0 within)
entry-after w slots after root (suc prefix) chain starts c within is =
    ap (chain_start_in root) (is ∙ ap (λ (o : Option ℕ). acted (slot_at slots root) (root_action (suc prefix) o)) (slice_get-get_or chain (suc prefix) 0 within))

-- who counts what is committed is a reader
committed-reader : (w : Window) (horizon : ℕ) (slots : List Slot) → SoundPage w slots → IsPageReader w horizon slots (IsCommitted w)
committed-reader w horizon slots sound = record {
  past = λ x done before. done;
  none_aborted = λ x gone done. let e : Aborted ≡ Committed = sym gone ∙ done in absurd (cc);
  in_order = λ n t at deleted counted. sound.made n t at deleted;
}

module _ (w : Window) (horizon : ℕ) (slots after : List Slot) (sound : SoundPage w slots) (p : IsThinned w horizon slots after) where
  -- what becomes of a root and its chain
  record Rooted (root : ℕ) : Type 0 where
    chain : List ℕ
    prefix : ℕ
    is_chain : IsChain (has_aborted w) slots root chain
    is : IsShortened w horizon slots after root chain prefix

  rooted : (root : ℕ) → is_root slots root ≡ true → Rooted root
  rooted root starts =
      let own = chain-exists (has_aborted w) slots root sound.few in
      let s = p.chains root own.chain starts own.is in
      record { chain = own.chain; prefix = s.0; is_chain = own.is; is = s.1 }

  led-root : (n k : ℕ) → is_root slots n ≡ true → slot_at after n ≡ Some (Redirect k) → Led w horizon slots after n k
  led-root n k starts at = let r = rooted n starts in by r.chain r.is_chain r.prefix (slice_get r.chain r.prefix) refl r.is (sym r.is.leads ∙ at)
    where
      by : (chain : List ℕ) → IsChain (has_aborted w) slots n chain → (prefix : ℕ) (o : Option ℕ) → slice_get chain prefix ≡ o → IsShortened w horizon slots after n chain prefix
          → acted (slot_at slots n) (root_action prefix o) ≡ Some (Redirect k) → Led w horizon slots after n k
      by chain c zero o there s e = Led.before e
      by chain c (suc prefix) None there s e = absurd (let f : Some Dead ≡ Some (Redirect k) = e in cc)
      by chain c (suc prefix) (Some j) there s e =
          let f : Some (Redirect j) ≡ Some (Redirect k) = e in
          let jk : j ≡ k = cc in
          Led.now chain (suc prefix) starts c s (omega arith) (slice_get_within chain (suc prefix) j there) (get_or_from_slice_get chain (suc prefix) j 0 there ∙ jk)

  led-by : (n k : ℕ) → slot_at after n ≡ Some (Redirect k) → Led w horizon slots after n k
  led-by n k at = ⊎_elim
      (λ starts. led-root n k starts at)
      (λ off. other (p.others n (there.0, (let h = there.1 in let count = p.count in omega arith)) off))
      (cases_Bool (is_root slots n))
    where
      there : SlotIsThere after n
      there = there-from_slot_at after n (Redirect k) at

      other : StaysOrGoes slots after n → Led w horizon slots after n k
      other (StaysOrGoes.stays same) = Led.before (sym same ∙ at)
      other (StaysOrGoes.goes t was gone) = absurd (let f : Some Unused ≡ Some (Redirect k) = sym gone ∙ at in cc)

  entered : (root e : ℕ) → chain_start_of after root ≡ Some e → Entered w slots root e
  entered root e leads = by (slot_at after root) refl leads
    where
      led : (k : ℕ) → Led w horizon slots after root k → Entered w slots root k
      led k (Led.before at) = record { first = k; leads = ap (chain_start_in root) at; later = record { turns = 0; along = refl } }
      led k (Led.now chain prefix starts c s some within is) =
          let h : 0 < length chain = omega arith in
          let first = sym c.start ∙ slice_get-get_or chain 0 0 h in
          record {
            first = get_or chain 0 0;
            leads = first-entry slots root (get_or chain 0 0) starts first;
            later = subst (λ x. Reaches (link w slots) (get_or chain 0 0) x) is (reaches-places w slots root chain 0 prefix c (omega arith) within);
          }

      by : (o : Option Slot) → slot_at after root ≡ o → chain_start_in root o ≡ Some e → Entered w slots root e
      by None at f = absurd (cc)
      by (Some Unused) at f = absurd (cc)
      by (Some (Normal t)) at f =
          let kept = p.removes.kept root t (version_at-from_slot_at after root t at) in
          record { first = e; leads = ap (chain_start_in root) (slot_at-from_version_at slots root t kept) ∙ f; later = record { turns = 0; along = refl } }
      by (Some (Redirect k)) at f = subst (Entered w slots root) (same_Some k e f) (led k (led-by root k at))
      by (Some Dead) at f = absurd (cc)

  in-before : (root n : ℕ) → IsIn w after root n → IsIn w slots root n
  in-before root n i =
      let old = entered root i.entry i.leads in
      record {
        entry = old.first;
        leads = old.leads;
        later = through (link w slots) old.later.turns old.first i.entry n old.later.along
            (record { turns = i.later.turns; along = reaches-before w horizon slots after sound p i.later.turns i.entry n i.later.along });
      }

  -- what is kept of a chain stays in the chain of the same root
  in-after : (root n : ℕ) (t : Version) → IsIn w slots root n → version_at after n ≡ Some t → IsIn w after root n
  in-after root n t i at =
      let starts = entry-root slots root i.entry i.leads in
      let r = rooted root starts in
      let first = chain-first (has_aborted w) slots root i.entry r.chain r.is_chain (entry-first w slots root i.entry sound i.leads) in
      let later = exact w slots root r.chain 0 i.later.turns n sound r.is_chain first.0 (subst (λ k. ReachesIn (link w slots) i.later.turns k n) (sym first.1) i.later.along) in
      let place : ℕ = 0 + i.later.turns in
      let le : r.prefix ≤ place = place-kept w horizon slots after root r.prefix place r.chain t r.is (ap (version_at after) (sym later.is) ∙ at) in
      let within : place < length r.chain = later.within in
      let below : r.prefix < length r.chain = omega arith in
      let along = reaches-places w slots root r.chain r.prefix place r.is_chain le within in
      let start = member-version (has_aborted w) slots root r.chain r.prefix r.is_chain below in
      record {
        entry = get_or r.chain r.prefix 0;
        leads = entry-after w slots after root r.prefix r.chain starts r.is_chain below r.is.leads;
        later = subst (λ k. Reaches (link w after) (get_or r.chain r.prefix 0) k) (sym later.is)
            (record {
              turns = along.turns;
              along = reaches-after w horizon slots after sound p along.turns (get_or r.chain r.prefix 0) (get_or r.chain place 0) start.version along.along
                  (ap (option_and_then version_of) (r.is.kept r.prefix (omega arith) below) ∙ start.there);
            });
      }

  -- A redirect's target.

  target-new : (n prefix : ℕ) (chain : List ℕ) → IsChain (has_aborted w) slots n chain → IsShortened w horizon slots after n chain (suc prefix) → suc prefix < length chain
      → IsTarget w after (get_or chain (suc prefix) 0)
  target-new n prefix chain c s within = record {
    version = l.new;
    there = ap (option_and_then version_of) (s.kept (suc prefix) (omega arith) within) ∙ l.to;
    heap_only = l.heap_only;
    made = inr (subst (IsCommitted w) (sym l.made) (⊎_elim undone gone (cut-cases w horizon slots (IsCommitted w) (get_or chain prefix 0) sound (committed-reader w horizon slots sound) cut)));
  }
    where
      one : prefix + 1 ≡ suc prefix
      one = omega arith

      next : link w slots (get_or chain prefix 0) ≡ Some (get_or chain (suc prefix) 0)
      next = subst (λ k. link w slots (get_or chain prefix 0) ≡ Some (get_or chain k 0)) one (c.linked prefix (omega arith))

      l : IsLink (has_aborted w) slots (get_or chain prefix 0) (get_or chain (suc prefix) 0)
      l = link-of (has_aborted w) slots (get_or chain prefix 0) (get_or chain (suc prefix) 0) next

      cut : IsCut w horizon slots (get_or chain prefix 0)
      cut = let d = s.cut prefix (omega arith) in
          record { last = get_or chain d.0 0; later = reaches-places w slots n chain prefix d.0 c d.1 d.2; dead = d.3 }

      undone : IsUndoneAt w slots (get_or chain prefix 0) → IsCommitted w l.old.header.xmax.0
      undone u =
          let same : u.version ≡ l.old = same_Some u.version l.old (sym u.there ∙ l.from) in
          let thawed = subst (λ (v : Version). ¬ IsFrozen v.header) same u.thawed in
          let aborted = subst (λ (v : Version). IsAborted w v.header.xmin.0) same u.aborted in
          let e : false ≡ true = sym l.live ∙ aborted-has w l.old.header.xmax.0 (sound.undone (get_or chain prefix 0) l.old l.from thawed aborted l.deleter) in
          absurd (cc)

      gone : IsGone w slots (IsCommitted w) (get_or chain prefix 0) → IsCommitted w l.old.header.xmax.0
      gone g =
          let same : g.version ≡ l.old = same_Some g.version l.old (sym g.there ∙ l.from) in
          subst (λ (v : Version). IsCommitted w v.header.xmax.0) same g.deleted

  target-kept : (n k : ℕ) → slot_at slots n ≡ Some (Redirect k) → slot_at after n ≡ Some (Redirect k) → IsTarget w after k
  target-kept n k at still =
      let old = sound.redirects n k at in
      let e : chain_start_of slots n ≡ Some k = ap (chain_start_in n) at in
      let r = rooted n (entry-root slots n k e) in
      let first = chain-first (has_aborted w) slots n k r.chain r.is_chain (entry-first w slots n k sound e) in
      record {
        version = old.version;
        there = subst (λ x. version_at after x ≡ Some old.version) first.1
            (ap (option_and_then version_of) (r.is.kept 0 (none r.chain r.prefix first.0 first.1 r.is_chain r.is) first.0) ∙ ap (version_at slots) first.1 ∙ old.there);
        heap_only = old.heap_only;
        made = old.made;
      }
    where
      none : (chain : List ℕ) (prefix : ℕ) → 0 < length chain → get_or chain 0 0 ≡ k → IsChain (has_aborted w) slots n chain → IsShortened w horizon slots after n chain prefix → prefix ≤ 0
      none chain prefix some first c s = ⊎_elim
          (λ lt. absurd (elsewhere prefix (slice_get chain prefix) lt refl (sym s.leads ∙ still)))
          (λ ge. ge)
          (cases_lt 0 prefix)
        where
          elsewhere : (prefix : ℕ) (o : Option ℕ) → 0 < prefix → slice_get chain prefix ≡ o → acted (slot_at slots n) (root_action prefix o) ≡ Some (Redirect k) → ⊥
          elsewhere zero o lt at_front e = absurd (omega arith)
          elsewhere (suc prefix) None lt at_front e = absurd (let f : Some Dead ≡ Some (Redirect k) = e in cc)
          elsewhere (suc prefix) (Some j) lt at_front e =
              let f : Some (Redirect j) ≡ Some (Redirect k) = e in
              let same : j ≡ k = cc in
              prefix-target n (suc prefix) k k chain (Some j) c.distinct (slice_get-get_or chain 0 0 some ∙ ap Some first) at_front
              (ap (λ x. Some (action.Redirect x)) same) refl

  target-after : (n k : ℕ) → slot_at after n ≡ Some (Redirect k) → IsTarget w after k
  target-after n k at = by (led-by n k at)
    where
      by : Led w horizon slots after n k → IsTarget w after k
      by (Led.before old) = target-kept n k old at
      by (Led.now chain zero starts c s some within is) = absurd (omega arith)
      by (Led.now chain (suc prefix) starts c s some within is) = subst (IsTarget w after) is (target-new n prefix chain c s within)

  pub thinned-sound : SoundPage w after
  thinned-sound = record {
    few = (let count = p.count in let few = sound.few in omega arith);
    made = λ n t at. sound.made n t (p.removes.kept n t at);
    undone = λ n t at. sound.undone n t (p.removes.kept n t at);
    unfrozen = λ n k u e at. sound.unfrozen n k u (next-before w horizon slots after sound p n k e) (p.removes.kept k u at);
    whole = λ n t at replaced.
        let next = sound.whole n t (p.removes.kept n t at) replaced in
        record { place = next.place; next = next-after w horizon slots after sound p n next.place t next.next at };
    ends = λ n k e r. sound.ends n k (next-before w horizon slots after sound p n k e)
        (record { turns = r.turns; along = reaches-before w horizon slots after sound p r.turns k n r.along });
    redirects = target-after;
    owned = λ n t at heap_only. ⊎_elim
        (λ u. inl u)
        (λ r. inr (record { root = r.root; leads = in-after r.root n t r.leads at }))
        (sound.owned n t (p.removes.kept n t at) heap_only);
    alone = λ a b n x y. sound.alone a b n (in-before a n x) (in-before b n y);
  }

  thinned-keeps_roots : KeepsRoots slots after
  thinned-keeps_roots n starts = let r = rooted n starts in by r.prefix (slice_get r.chain r.prefix) r.is.leads
    where
      by : (prefix : ℕ) (o : Option ℕ) → slot_at after n ≡ acted (slot_at slots n) (root_action prefix o) → (slot_at after n ≡ slot_at slots n) ⊎ ((kept : Option ℕ) × (slot_at after n ≡ Some (lead kept)))
      by zero o is = inl is
      by (suc prefix) None is = inr (None, is)
      by (suc prefix) (Some k) is = inr (Some k, is)

  pub thinned-keeps_chains : KeepsChains w slots after
  thinned-keeps_chains = record {
    roots = thinned-keeps_roots;
    no_new = in-before;
    kept = in-after;
  }

-- a dead slot stays dead
pub thinned-dead : (w : Window) (horizon : ℕ) (slots after : List Slot) (n : ℕ) → IsThinned w horizon slots after → slot_at slots n ≡ Some Dead → slot_at after n ≡ Some Dead
thinned-dead w horizon slots after n p at = by (p.others n (there-from_slot_at slots n Dead at) (ap is_root_in at))
  where
    by : StaysOrGoes slots after n → slot_at after n ≡ Some Dead
    by (StaysOrGoes.stays same) = same ∙ at
    by (StaysOrGoes.goes t was gone) = absurd (none-some t (sym (ap (option_and_then version_of) at) ∙ was))
