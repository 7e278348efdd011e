-- The prefix of a chain that a plan names.
use Rattle.std.proofs.Common.{◌≡◌, ◌↔◌, ℕ, ◌+◌, ◌-◌, ◌<◌, ◌≤◌, Bool, true, false, IsTrue, List, length, get_or, take, drop, Option, Some, None, IsSome, arith, ⊎_elim, sym, ap, ◌∙◌, refl, subst, slice_get}
use Rattle.std.proofs.lemmas.Bool.{cases_lt}
use Rattle.std.proofs.lemmas.List.{length-take-le, get_or-take, length-drop, get_or-drop}
use Rattle.page_sheet.specs.declared.slot.Slot.{Slot}
use Rattle.page_sheet.specs.Slots.{header_at}
use Rattle.commit_status.specs.Window.{Window}
use Rattle.hot_chain.specs.Chain.{has_aborted, IsChain}
use Rattle.hot_chain.proofs.Chains.{chain-one}
use Rattle.prune_actions.specs.declared.Action.{Action}
use Rattle.prune.specs.Cutting.{IsCutCount}
use Rattle.prune.specs.Pruning.{root_action}
use Rattle.prune.specs.Marks.{AreNumbers}
use Rattle.prune.specs.Checks.{IsPrefix, HasPrefix}
use Rattle.prune.specs.Named.{named_at, IsNamedPrefix, BecomesUnused}

-- Answers of tests.

pub refused : (b : Bool) (P : Type 0) → b ≡ false → (IsTrue b ↔ P) → ¬ P
refused true P e t = absurd (cc)
refused false P e t = λ p. let f : false ≡ true = t.1 p in cc

pub taken : (b : Bool) (P : Type 0) → b ≡ true → (IsTrue b ↔ P) → P
taken true P e t = t.0 refl
taken false P e t = absurd (cc)

pub same-by : (b : Bool) (x y u v : Option Action) → x ≡ u → y ≡ v → (IsTrue b ↔ (x ≡ y)) → IsTrue b ↔ (u ≡ v)
same-by b x y u v e f t = ((λ h. sym e ∙ t.0 h ∙ f), (λ h. t.1 (e ∙ h ∙ sym f)))

pub off-because : (P : Type 0) → ¬ P → IsTrue false ↔ P
off-because P never = ((λ t. absurd (let f : false ≡ true = t in cc)), (λ p. absurd (never p)))

some-not_none : (o : Option Action) → IsSome o → o ≡ None → ⊥
some-not_none None s e = let f : false ≡ true = s in cc
some-not_none (Some a) s e = cc

pub record IsRest (xs rest : List ℕ) (from : ℕ) : Type 0 where
  pub size : length rest ≡ length xs - from
  pub each : (i : ℕ) → i < length rest → get_or rest i 0 ≡ get_or xs (from + i) 0

prefix-same : (w : Window) (horizon : ℕ) (slots : List Slot) (named : List (Option Action)) (root : ℕ) (chain : List ℕ) (a b : ℕ) → IsNamedPrefix named chain a
    → IsPrefix w horizon slots (named_at named) root chain b → b ≡ a
prefix-same w horizon slots named root chain a b n f = ⊎_elim
    (λ lt. absurd (some-not_none (named_at named (get_or chain a 0)) ((f.removed a (let h = f.within in omega arith)).1 lt) (n.next (let h = f.within in omega arith))))
    (λ ge. ⊎_elim (λ gt. absurd (let h = (f.removed b (let l = n.within in omega arith)).0 (n.all b gt) in omega arith)) (λ le. omega arith) (cases_lt b a))
    (cases_lt a b)

pub prefix-within_cut : (w : Window) (horizon : ℕ) (slots : List Slot) (named : List (Option Action)) (root : ℕ) (chain : List ℕ) (prefix cut : ℕ)
    → IsChain (has_aborted w) slots root chain → IsNamedPrefix named chain prefix → IsCutCount w horizon slots chain cut → cut < prefix → ¬ HasPrefix w horizon slots (named_at named) root
prefix-within_cut w horizon slots named root chain prefix cut c n count lt has =
    let f = has chain c in
    let same = prefix-same w horizon slots named root chain prefix f.0 n f.1 in
    let d = f.1.cut (prefix - 1) (omega arith) in
    count.none_after d.0 (let le = d.1 in omega arith) d.2 d.3

pub prefix-right : (w : Window) (horizon : ℕ) (slots : List Slot) (named : List (Option Action)) (root : ℕ) (chain rest : List ℕ) (prefix cut : ℕ) (b : Bool)
    → IsChain (has_aborted w) slots root chain → IsNamedPrefix named chain prefix → IsRest chain rest prefix → IsCutCount w horizon slots chain cut → prefix ≤ cut
    → ((i : ℕ) → i < length rest → named_at named (get_or rest i 0) ≡ None)
    → ((i : ℕ) → i < length (take prefix chain) → BecomesUnused slots named (get_or (take prefix chain) i 0))
    → (IsTrue b ↔ (named_at named root ≡ root_action prefix (slice_get chain prefix))) → IsTrue b ↔ HasPrefix w horizon slots (named_at named) root
prefix-right w horizon slots named root chain rest prefix cut b c n r count le unnamed unused same = (
  λ t d other. subst (λ l. (f : ℕ) × IsPrefix w horizon slots (named_at named) root l f) (chain-one (has_aborted w) slots root chain d c other) (
    prefix,
    record {
      within = n.within;
      removed = λ i h. (
        λ some. ⊎_elim (λ lt. lt) (λ ge.
            let size = r.size in
            let at : prefix + (i - prefix) ≡ i = omega arith in
            let e = sym (r.each (i - prefix) (omega arith)) in
            absurd (some-not_none (named_at named (get_or chain i 0)) some
            (ap (λ k. named_at named (get_or chain k 0)) (sym at) ∙ ap (named_at named) e ∙ unnamed (i - prefix) (omega arith)))) (cases_lt i prefix),
        λ lt. n.all i lt,
      );
      cut = λ i h. (cut - 1, (omega arith), (let l = count.within in omega arith), count.dead (omega arith));
      unused = λ i header h at heap_only.
          let long = length-take-le prefix chain n.within in
          let e = get_or-take prefix chain i 0 h in
          ap (named_at named) (sym e) ∙ unused i (omega arith) header (ap (header_at slots) e ∙ at) heap_only;
      leads = same.0 t;
    },
  ),
  λ has.
      let f = has chain c in
      let is = prefix-same w horizon slots named root chain prefix f.0 n f.1 in
      same.1 (f.1.leads ∙ ap (λ k. root_action k (slice_get chain k)) is),
)

pub rest-is : (xs : List ℕ) (from : ℕ) → from ≤ length xs → IsRest xs (take (length xs - from) (drop from xs)) from
rest-is xs from h =
    let long = length-drop from xs in
    let all = length-take-le (length xs - from) (drop from xs) (omega arith) in
    record {
      size = all;
      each = λ i l. get_or-take (length xs - from) (drop from xs) i 0 (omega arith) ∙ get_or-drop from xs i 0;
    }

pub numbers-rest : (xs rest : List ℕ) (from : ℕ) → from ≤ length xs → IsRest xs rest from → AreNumbers xs → AreNumbers rest
numbers-rest xs rest from h r small = λ i l.
    let size = r.size in
    rw (r.each i l) (small (from + i) (omega arith))
