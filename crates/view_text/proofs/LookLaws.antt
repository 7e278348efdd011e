-- What is read is spelled so, and what is spelled so is read.
use Rattle.std.proofs.Common.{◌≡◌, ℕ, ◌-◌, ◌^◌, ◌<◌, ◌≤◌, List, ◌∷◌, ◌++◌, refl, ap, ◌∙◌, sym, arith, Option, None, Some, false, cond, inl, inr, codes}
use Rattle.std.specs.Str.{bytes_eq}
use Rattle.std.specs.Fmt.{decimal}
use Rattle.std.proofs.lemmas.Option.{none-some, same_Some}
use Rattle.script_text.specs.Grammar.{spaced, key_words}
use Rattle.script_text.specs.Reading.{◌>>=◌, cut, number_of, number_then}
use Rattle.script_text.proofs.ByteLemmas.{Free, Free-append, free_text}
use Rattle.script_text.proofs.NumberLaws.{bound, cut_says, cut-free, number_of_says, number_of-decimal, number_then_says, number_then-decimal, decimal_free}
use Rattle.script_text.proofs.GrammarLaws.{verb_is, one_free}
use Rattle.script_text.proofs.PlanLaws.{chosen}
use Rattle.view_text.specs.declared.look.Look.{Look}
use Rattle.view_text.specs.declared.look.Look.TheVariants.{Explain, Session, Horizon, Fate, Plan, Vacuum}
use Rattle.view_text.specs.Looks.{look_text, LookFits, SpellsLook}
use Rattle.view_text.specs.Reading.{explain_of, fate_of, session_of, plan_of, look_of, look_at}

-- what is read is in range, and spelled so behind this word
abbrev IsSpelled : List ℕ → List ℕ → Look → Type 0
IsSpelled word rest look = LookFits look × (word ++ spaced rest ≡ look_text look)

explain_says : (xs : List ℕ) (look : Look) → explain_of xs ≡ Some look → IsSpelled (codes "explain") xs look
unfolding explain_of
explain_says xs look h =
    let s = bound (number_then 255 xs) _ look h in
    let k = bound (number_of (2 ^ 64 - 1) s.0.1) _ look s.2 in
    let s_is = number_then_says 255 xs s.0.0 s.0.1 (omega arith) s.1 in
    let k_is = number_of_says (2 ^ 64 - 1) s.0.1 k.0 (omega arith) k.1 in
    rw (← same_Some _ look k.2) (
      (omega (arith, s_is.1), omega (arith, k_is.1)),
      ap (λ r. codes "explain" ++ spaced r) (s_is.0 ∙ ap (λ r. decimal s.0.0 ++ spaced r) k_is.0),
    )

fate_says : (xs : List ℕ) (look : Look) → fate_of xs ≡ Some look → IsSpelled (codes "fate") xs look
unfolding fate_of
fate_says xs look h =
    let p = bound (number_then 4294967295 xs) _ look h in
    let n = bound (number_of 65535 p.0.1) _ look p.2 in
    let p_is = number_then_says 4294967295 xs p.0.0 p.0.1 (omega arith) p.1 in
    let n_is = number_of_says 65535 p.0.1 n.0 (omega arith) n.1 in
    rw (← same_Some _ look n.2) (
      (omega (arith, p_is.1), omega (arith, n_is.1)),
      ap (λ r. codes "fate" ++ spaced r) (p_is.0 ∙ ap (λ r. decimal p.0.0 ++ spaced r) n_is.0),
    )

session_says : (xs : List ℕ) (look : Look) → session_of xs ≡ Some look → IsSpelled (codes "session") xs look
unfolding session_of
session_says xs look h =
    let s = bound (number_of 255 xs) _ look h in
    let s_is = number_of_says 255 xs s.0 (omega arith) s.1 in
    rw (← same_Some _ look s.2) (omega (arith, s_is.1), ap (λ r. codes "session" ++ spaced r) s_is.0)

plan_says : (xs : List ℕ) (look : Look) → plan_of xs ≡ Some look → IsSpelled (codes "plan") xs look
unfolding plan_of
plan_says xs look h =
    let p = bound (number_of 4294967295 xs) _ look h in
    let p_is = number_of_says 4294967295 xs p.0 (omega arith) p.1 in
    rw (← same_Some _ look p.2) (omega (arith, p_is.1), ap (λ r. codes "plan" ++ spaced r) p_is.0)

-- one verb, and else what other verbs say
verb_says : (word verb rest : List ℕ) (read others : Option Look) (look : Look) → cond (bytes_eq word verb) read others ≡ Some look
    → (read ≡ Some look → IsSpelled verb rest look) → (others ≡ Some look → IsSpelled word rest look) → IsSpelled word rest look
verb_says word verb rest read others look h says more = elim (chosen (bytes_eq word verb) read others (Some look) h) [
  | inl a ↦ let is = says a.1 in (is.0, ap (λ w. w ++ spaced rest) (verb_is word verb a.0) ∙ is.1)
  | inr a ↦ more a.1
]

look_says : (word rest : List ℕ) (look : Look) → look_of word rest ≡ Some look → IsSpelled word rest look
look_says word rest look h =
    verb_says word (codes "explain") rest _ _ look h (explain_says rest look) (λ h1.
    verb_says word (codes "session") rest _ _ look h1 (session_says rest look) (λ h2.
    verb_says word (codes "fate") rest _ _ look h2 (fate_says rest look) (λ h3.
    verb_says word (codes "plan") rest _ None look h3 (plan_says rest look) (λ h4.
    absurd (none-some look h4)))))

line_says : (w : List ℕ) (look : Look) → look_at w ≡ Some look → LookFits look × (w ≡ look_text look)
unfolding look_at
line_says w look h = elim (chosen (bytes_eq w (codes "horizon")) (Some Horizon) _ (Some look) h) [
  | inl a ↦ rw (← same_Some Horizon look a.1) (tt, verb_is w (codes "horizon") a.0)
  | inr a ↦ elim (chosen (bytes_eq w (codes "vacuum")) (Some Vacuum) _ (Some look) a.1) [
    | inl b ↦ rw (← same_Some Vacuum look b.1) (tt, verb_is w (codes "vacuum") b.0)
    | inr b ↦
        let p = bound (cut w) _ look b.1 in
        let is = look_says p.0.0 p.0.1 look p.2 in
        (is.0, cut_says w p.0.0 p.0.1 p.1 ∙ is.1)
  ]
]

explain_read : (s key : ℕ) → s < 2 ^ 8 → key < 2 ^ 64 → explain_of (key_words s key) ≡ Some (Explain s key)
unfolding explain_of
explain_read s key hs hk = rw (number_then-decimal 255 s (decimal key) (omega arith) (omega arith), number_of-decimal (2 ^ 64 - 1) key (omega arith) (omega arith)) refl

fate_read : (p n : ℕ) → p < 2 ^ 32 → n < 2 ^ 16 → fate_of (key_words p n) ≡ Some (Fate p n)
unfolding fate_of
fate_read p n hp hn = rw (number_then-decimal 4294967295 p (decimal n) (omega arith) (omega arith), number_of-decimal 65535 n (omega arith) (omega arith)) refl

session_read : (s : ℕ) → s < 2 ^ 8 → session_of (decimal s) ≡ Some (Session s)
unfolding session_of
session_read s h = rw (number_of-decimal 255 s (omega arith) (omega arith)) refl

plan_read : (p : ℕ) → p < 2 ^ 32 → plan_of (decimal p) ≡ Some (Plan p)
unfolding plan_of
plan_read p h = rw (number_of-decimal 4294967295 p (omega arith) (omega arith)) refl

-- a verb is found again, and no line of several words is one of the lines of one
with_verb : (verb rest : List ℕ) (read : Option Look) → Free 32 verb → bytes_eq (verb ++ 32 ∷ rest) (codes "horizon") ≡ false
    → bytes_eq (verb ++ 32 ∷ rest) (codes "vacuum") ≡ false → look_of verb rest ≡ read → look_at (verb ++ 32 ∷ rest) ≡ read
unfolding look_at
with_verb verb rest read free other another same = rw (other, another, cut-free verb rest free) same

horizon_line : look_at (codes "horizon") ≡ Some Horizon
unfolding look_at
horizon_line = refl

vacuum_line : look_at (codes "vacuum") ≡ Some Vacuum
unfolding look_at
vacuum_line = refl

pub look_read : (look : Look) → LookFits look → look_at (look_text look) ≡ Some look
look_read (Explain s key) h = with_verb (codes "explain") (key_words s key) _ (free_text 32 (codes "explain") refl) refl refl (explain_read s key h.0 h.1)
look_read (Session s) h = with_verb (codes "session") (decimal s) _ (free_text 32 (codes "session") refl) refl refl (session_read s h)
look_read Horizon h = horizon_line
look_read (Fate p n) h = with_verb (codes "fate") (key_words p n) _ (free_text 32 (codes "fate") refl) refl refl (fate_read p n h.0 h.1)
look_read (Plan p) h = with_verb (codes "plan") (decimal p) _ (free_text 32 (codes "plan") refl) refl refl (plan_read p h)
look_read Vacuum h = vacuum_line

-- what is read of a line is what it spells
pub spells_look : (text : List ℕ) (o : Option Look) → o ≡ look_at text → SpellsLook text o
spells_look text None e = λ look fits is. none-some look (e ∙ ap look_at is ∙ look_read look fits)
spells_look text (Some look) e = line_says text look (sym e)

pair_free : (a b : ℕ) → a < 2 ^ 64 → b < 2 ^ 64 → Free 10 (spaced (key_words a b))
pair_free a b ha hb = (refl, Free-append 10 (decimal a) (spaced (decimal b)) (decimal_free 10 a (omega arith) (omega arith)) (one_free b hb))

-- no line feed is in a look's text
pub look_free : (look : Look) → LookFits look → Free 10 (look_text look)
look_free (Explain s key) h = Free-append 10 (codes "explain") (spaced (key_words s key)) (free_text 10 (codes "explain") refl) (pair_free s key (omega (arith, h.0)) h.1)
look_free (Session s) h = Free-append 10 (codes "session") (spaced (decimal s)) (free_text 10 (codes "session") refl) (one_free s (omega arith))
look_free Horizon h = free_text 10 (codes "horizon") refl
look_free (Fate p n) h = Free-append 10 (codes "fate") (spaced (key_words p n)) (free_text 10 (codes "fate") refl) (pair_free p n (omega (arith, h.0)) (omega (arith, h.1)))
look_free (Plan p) h = Free-append 10 (codes "plan") (spaced (decimal p)) (free_text 10 (codes "plan") refl) (one_free p (omega arith))
look_free Vacuum h = free_text 10 (codes "vacuum") refl
