-- What an explanation of a key verdict_shows as seen is what a reader finds of it.
use Rattle.std.proofs.Common.{◌≡◌, ℕ, ℤ, ◌<◌, Bool, true, List, length, get_or, Option, Some, None, arith, ⊎_elim, refl, sym, ap, ◌∙◌, subst, slice_get}
use Rattle.std.specs.Prelude.{pos}
use Rattle.std.specs.Option.{option_map, option_and_then}
use Rattle.std.proofs.lemmas.Bool.{cases_lt}
use Rattle.std.proofs.lemmas.Option.{same_Some, none-some, slice_get_within, get_or_from_slice_get, slice_get-get_or}
use Rattle.xid_circle.specs.declared.Tid.{Tid}
use Rattle.tuple_header.specs.Version.{Version}
use Rattle.tuple_header.specs.declared.version.Row.{Row}
use Rattle.tuple_header.specs.IndexValue.{value_in}
use Rattle.page_sheet.specs.declared.slot.Slot.{Slot}
use Rattle.page_sheet.specs.declared.slot.Slot.TheVariants.{Dead}
use Rattle.page_sheet.specs.Slots.{slot_at, version_at}
use Rattle.hot_chain.specs.Chain.{has_aborted, start_in, IsChain, LeadsTo}
use Rattle.hot_chain.proofs.Chains.{chain-one, distinct-places}
use Rattle.sound_page.specs.Sound.{IsIn}
use Rattle.sound_page.proofs.ChainPlaces.{place-of, at-place}
use Rattle.sound_page.proofs.SoundChains.{in-leads, leads-in}
use Rattle.index_entries.specs.declared.entry.Entry.{Entry}
use Rattle.index_entries.specs.Sets.{IsOf}
use Rattle.index_lookup.specs.Pages.{slots_on}
use Rattle.reasons.specs.declared.reason.Verdict.{Verdict}
use Rattle.reasons.specs.Reasons.{IsVerdictIn, verdict_shows}
use Rattle.reasons.proofs.VerdictLemmas.{verdict-decides, verdict-one}
use Rattle.reasons.proofs.Existing.{verdict-exists}
use Rattle.explanations.specs.declared.versions.ShownVersion.{ShownVersion}
use Rattle.sound_explanations.specs.Showing.{Vantage, IsShownFor, ShowsOne, ShowsNone, ShowsOnly, IsSoundVantage, IsFoundBy, FindsRow, ExplanationsShowWhatIsFound, EachIsShownOnce}

-- A list that is a chain holds a number once.
one-place : (chain : List ℕ) (i j k : ℕ) → ((a b : ℕ) → a < b → b < length chain → ¬ (get_or chain a 0 ≡ get_or chain b 0)) → slice_get chain i ≡ Some k → slice_get chain j ≡ Some k → i ≡ j
one-place chain i j k apart a b =
    let x = get_or_from_slice_get chain i k 0 a in
    let y = get_or_from_slice_get chain j k 0 b in
    let within = slice_get_within chain i k a in
    let within' = slice_get_within chain j k b in
    ⊎_elim (λ lt. absurd (apart i j lt within' (x ∙ sym y)))
    (λ ge. ⊎_elim (λ gt. absurd (apart j i gt within (y ∙ sym x))) (λ le. omega arith) (cases_lt j i))
    (cases_lt i j)

-- a dead slot leads nowhere
dead-nowhere : (aborted : ℕ → Bool) (slots : List Slot) (n : ℕ) (chain : List ℕ) → IsChain aborted slots n chain → slot_at slots n ≡ Some Dead → ¬ (0 < length chain)
dead-nowhere aborted slots n chain c dead some =
    none-some (get_or chain 0 0) (sym (c.start ∙ ap (option_and_then (start_in slots n)) dead) ∙ slice_get-get_or chain 0 0 some)

abbrev pub shown_of : ℕ → Verdict → ShownVersion
shown_of slot verdict = record { slot = slot; verdict = verdict }

abbrev pub tid_of : ℕ → ℕ → Tid
tid_of page slot = record { page = page; slot = slot }

abbrev pub place_in : Entry → ShownVersion → Tid
place_in f v = tid_of f.tid.page v.slot

-- what is shown stands in the chain of its entry's root
shown-leads : (g : Vantage) (key : ℕ) (f : Entry) (n : ℕ) (v : ShownVersion) → IsSoundVantage g → IsShownFor g key f n v → LeadsTo (has_aborted g.statuses) (slots_on g.pages f.tid.page) f.tid.slot v.slot
shown-leads g key f n v sounds x =
    let slots = slots_on g.pages f.tid.page in
    let within = slice_get_within x.explained.chain n v.slot x.explained.shown.0 in
    let some : 0 < length x.explained.chain = omega (arith, within) in
    record {
      starts = ⊎_elim (λ root. root) (λ dead. absurd (dead-nowhere (has_aborted g.statuses) slots f.tid.slot x.explained.chain x.explained.is_chain dead some)) (sounds.index.leads f x.there);
      chain = x.explained.chain;
      is_chain = x.explained.is_chain;
      holds = at-place v.slot x.explained.chain n within (get_or_from_slice_get x.explained.chain n v.slot 0 x.explained.shown.0);
    }

-- where it is shown as seen, it is found
shown-found : (g : Vantage) (key : ℕ) (f : Entry) (n : ℕ) (v : ShownVersion) → IsSoundVantage g → (x : IsShownFor g key f n v) → verdict_shows v.verdict ≡ true
    → IsFoundBy g (pos key) key (place_in f v) x.explained.shown.1.version
shown-found g key f n v sounds x seen =
    let shown = x.explained.shown.1 in
    record {
      entry = f;
      of = x.of_key;
      leads = record { there = x.there; page = refl; chain = leads-in g.statuses (slots_on g.pages f.tid.page) f.tid.slot v.slot (shown-leads g key f n v sounds x) };
      there = shown.there;
      has = (verdict-decides g.statuses g.snapshot g.own shown.version.header v.verdict shown.verdict).1 seen;
    }

-- What stands at one place is shown once.

same-entry : (g : Vantage) (key : ℕ) (f h : Entry) (i j : ℕ) (v u : ShownVersion) → IsSoundVantage g → IsShownFor g key f i v → IsShownFor g key h j u → f.tid.page ≡ h.tid.page → v.slot ≡ u.slot → f ≡ h
same-entry g key f h i j v u sounds x y page slot =
    let a : IsIn g.statuses (slots_on g.pages h.tid.page) f.tid.slot u.slot = subst (λ k. IsIn g.statuses (slots_on g.pages h.tid.page) f.tid.slot k) slot
    (subst (λ k. IsIn g.statuses (slots_on g.pages k) f.tid.slot v.slot) page (leads-in g.statuses (slots_on g.pages f.tid.page) f.tid.slot v.slot (shown-leads g key f i v sounds x))) in
    let b = leads-in g.statuses (slots_on g.pages h.tid.page) h.tid.slot u.slot (shown-leads g key h j u sounds y) in
    let root : f.tid.slot ≡ h.tid.slot = (sounds.heap h.tid.page).alone f.tid.slot h.tid.slot u.slot a b in
    sounds.index.one f h x.there y.there (ap (λ k. tid_of k f.tid.slot) page ∙ ap (tid_of h.tid.page) root)

-- of one entry
same-shown : (g : Vantage) (key : ℕ) (f : Entry) (i j : ℕ) (v u : ShownVersion) → IsShownFor g key f i v → IsShownFor g key f j u → v.slot ≡ u.slot → (i ≡ j) × (v ≡ u)
same-shown g key f i j v u x y slot =
    let slots = slots_on g.pages f.tid.page in
    let c = x.explained.chain in
    let chains : y.explained.chain ≡ c = chain-one (has_aborted g.statuses) slots f.tid.slot y.explained.chain c y.explained.is_chain x.explained.is_chain in
    let place = subst (λ (d : List ℕ). slice_get d j ≡ Some u.slot) chains y.explained.shown.0 in
    let i_is = x.explained.shown.0 ∙ ap Some slot in
    let a = x.explained.shown.1 in
    let b = y.explained.shown.1 in
    let versions : a.version ≡ b.version = same_Some a.version b.version (sym a.there ∙ ap (version_at slots) slot ∙ b.there) in
    let verdicts = verdict-one g.statuses g.snapshot g.own a.version.header v.verdict u.verdict a.verdict
    (subst (λ (t : Version). IsVerdictIn g.statuses g.snapshot g.own t.header u.verdict) (sym versions) b.verdict) in (
      one-place c i j u.slot (λ k l lt within same. distinct-places c k l x.explained.is_chain.distinct lt within same) i_is place,
      ap (λ k. shown_of k v.verdict) slot ∙ ap (shown_of u.slot) verdicts,
    )

pub each-is-shown-once : EachIsShownOnce
each-is-shown-once g key f h i j v u sounds x y page slot =
    let entry = same-entry g key f h i j v u sounds x y page slot in
    let rest = same-shown g key h i j v u (subst (λ (e : Entry). IsShownFor g key e i v) entry x) y slot in
    (entry, rest.0, rest.1)

-- What is found is shown, and nothing else.

shows-none : (g : Vantage) (key : ℕ) (row : Option Row) → IsSoundVantage g → FindsRow g key row → row ≡ None → ShowsNone g key
shows-none g key row sounds finds none f n v x seen =
    let found = finds.sound (pos key) (place_in f v) x.explained.shown.1.version (shown-found g key f n v sounds x seen) in
    none-some x.explained.shown.1.version.row (sym none ∙ found)

all-same : (g : Vantage) (key : ℕ) (row : Option Row) → IsSoundVantage g → FindsRow g key row → (f h : Entry) (i j : ℕ) (v u : ShownVersion) → IsShownFor g key f i v → IsShownFor g key h j u
    → verdict_shows v.verdict ≡ true → verdict_shows u.verdict ≡ true → (f ≡ h) × (i ≡ j) × (v ≡ u)
all-same g key row sounds finds f h i j v u x y seen seen' =
    let p : place_in f v ≡ place_in h u = finds.one (pos key) (pos key) (place_in f v) (place_in h u) x.explained.shown.1.version y.explained.shown.1.version
    (shown-found g key f i v sounds x seen) (shown-found g key h j u sounds y seen') in
    each-is-shown-once g key f h i j v u sounds x y (ap (λ (q : Tid). q.page) p) (ap (λ (q : Tid). q.slot) p)

shows-one : (g : Vantage) (key : ℕ) (row : Option Row) (r : Row) → IsSoundVantage g → FindsRow g key row → row ≡ Some r → ShowsOne g key r
shows-one g key row r sounds finds is =
    let found = finds.there r is in
    let p = found.1 in
    let t = found.2 in
    let x = found.3 in
    let f = x.entry in
    let slots = slots_on g.pages f.tid.page in
    let here : version_at slots p.slot ≡ Some t = subst (λ k. version_at (slots_on g.pages k) p.slot ≡ Some t) x.leads.page x.there in
    let same : t.row ≡ r = same_Some t.row r (sym (finds.sound found.0 p t x) ∙ is) in
    let alike : IsOf (value_in 0 t.row) t.row.key f = ⊎_elim (λ out. absurd out) (λ of_it. of_it) (sounds.index.alike f p.slot t x.leads.there x.leads.chain here) in
    let keys : t.row.key ≡ key = sym alike.1 ∙ x.of.1 in
    let l = in-leads g.statuses slots f.tid.slot p.slot (sounds.heap f.tid.page) x.leads.chain in
    let place = place-of p.slot l.chain l.holds in
    let v = verdict-exists g.statuses g.snapshot g.own t.header in
    let shown : IsShownFor g key f place.0 (shown_of p.slot v.0) = record {
      there = x.leads.there;
      of_key = (alike.0 ∙ ap pos keys, x.of.1);
      explained = record {
        chain = l.chain;
        is_chain = l.is_chain;
        shown = (slice_get-get_or l.chain place.0 0 place.1 ∙ ap Some place.2, record { version = t; there = here; verdict = v.1 });
      };
    } in
    let seen = (verdict-decides g.statuses g.snapshot g.own t.header v.0 v.1).0 x.has in
    record {
      entry = f;
      place = place.0;
      version = shown_of p.slot v.0;
      shown = shown;
      seen = seen;
      has_row = ap (option_map (λ (u : Version). u.row)) here ∙ ap Some same;
      only = λ h n u y shows_it. all-same g key row sounds finds h f n place.0 u (shown_of p.slot v.0) y shown shows_it seen;
    }

pub explanations-show-what-is-found : ExplanationsShowWhatIsFound
explanations-show-what-is-found g key None sounds finds = shows-none g key None sounds finds refl
explanations-show-what-is-found g key (Some r) sounds finds = shows-one g key (Some r) r sounds finds refl
