-- The first line is read just where it is written so.
use Rattle.std.proofs.Common.{◌≡◌, ℕ, ◌^◌, ◌<◌, List, [], ◌∷◌, ◌++◌, length, get_or, refl, ap, ◌∙◌, sym, arith, Option, None, Some, Bool, true, false, cond, eqb, codes}
use Rattle.std.specs.List.{flat_map}
use Rattle.std.specs.Str.{bytes_eq}
use Rattle.std.specs.Fmt.{decimal}
use Rattle.std.proofs.lemmas.Option.{none-some, same_Some}
use Rattle.std.proofs.lemmas.Bool.Decides.{nat_tests}
use Rattle.calls.specs.Words.{AreSettings}
use Rattle.calls.specs.declared.settings.Settings.{Settings}
use Rattle.script_text.specs.Grammar.{heading, spaced, flag_text, SettingsFit, SpellsSettings}
use Rattle.script_text.specs.Reading.{cut, number_then, flag_of, flags4_of, heading_of, settings_at}
use Rattle.script_text.proofs.ByteLemmas.{Free, Free-append}
use Rattle.script_text.proofs.NumberLaws.{guarded, bound, cut_says, cut-free, number_then_says, number_then-decimal, decimal_free}
use Rattle.script_text.proofs.GrammarLaws.{verb_is, row_chain}

flag_of_says : (c : ℕ) (b : Bool) (s t : Bool) → eqb c 48 ≡ s → eqb c 49 ≡ t → flag_of c ≡ Some b → c ∷ [] ≡ flag_text b
unfolding flag_of
flag_of_says c b true t e f h =
    let h' = rw e at h in
    let c_is : c ≡ 48 = grind (arith, nat_tests) in
    rw (← same_Some false b h') (ap (λ x. x ∷ []) c_is)
flag_of_says c b false true e f h =
    let h' = rw (e, f) at h in
    let c_is : c ≡ 49 = grind (arith, nat_tests) in
    rw (← same_Some true b h') (ap (λ x. x ∷ []) c_is)
flag_of_says c b false false e f h = let h' = rw (e, f) at h in absurd (none-some b h')

same_four : (w : List ℕ) → length w ≡ 4 → w ≡ (get_or w 0 0 ∷ []) ++ ((get_or w 1 0 ∷ []) ++ ((get_or w 2 0 ∷ []) ++ ((get_or w 3 0 ∷ []) ++ [])))
same_four [] h = absurd (omega arith)
same_four (a ∷ []) h = absurd (omega arith)
same_four (a ∷ b ∷ []) h = absurd (omega arith)
same_four (a ∷ b ∷ c ∷ []) h = absurd (omega arith)
same_four (a ∷ b ∷ c ∷ d ∷ []) h = refl
same_four (a ∷ b ∷ c ∷ d ∷ e ∷ r) h = absurd (omega arith)

joined : (a b c d p q r s : List ℕ) → a ≡ p → b ≡ q → c ≡ r → d ≡ s → a ++ (b ++ (c ++ (d ++ []))) ≡ p ++ (q ++ (r ++ (s ++ [])))
joined a b c d p q r s e f g h = cc

flags4_of_says : (w : List ℕ) (bs : List Bool) → flags4_of w ≡ Some bs → (w ≡ flat_map flag_text bs) × (length bs ≡ 4)
unfolding flags4_of
flags4_of_says w bs h =
    let g = guarded (eqb (length w) 4) _ bs h in
    let size : length w ≡ 4 = let e = g.0 in grind (arith, nat_tests) in
    let a = bound (flag_of (get_or w 0 0)) _ bs g.1 in
    let b = bound (flag_of (get_or w 1 0)) _ bs a.2 in
    let c = bound (flag_of (get_or w 2 0)) _ bs b.2 in
    let d = bound (flag_of (get_or w 3 0)) _ bs c.2 in
    rw (← same_Some _ bs d.2) (
      same_four w size ∙ joined _ _ _ _ _ _ _ _ (flag_of_says (get_or w 0 0) a.0 _ _ refl refl a.1) (flag_of_says (get_or w 1 0) b.0 _ _ refl refl b.1) (flag_of_says (get_or w 2 0) c.0 _ _ refl refl c.1) (flag_of_says (get_or w 3 0) d.0 _ _ refl refl d.1),
      refl,
    )

flag_of-text : (b : Bool) → flag_of (cond b 49 48) ≡ Some b
unfolding flag_of
flag_of-text true = refl
flag_of-text false = refl

flags4_of-text : (bs : List Bool) → length bs ≡ 4 → flags4_of (flat_map flag_text bs) ≡ Some bs
unfolding flags4_of
flags4_of-text [] h = absurd (omega arith)
flags4_of-text (a ∷ []) h = absurd (omega arith)
flags4_of-text (a ∷ b ∷ []) h = absurd (omega arith)
flags4_of-text (a ∷ b ∷ c ∷ []) h = absurd (omega arith)
flags4_of-text (a ∷ b ∷ c ∷ d ∷ []) h = rw (flag_of-text a, flag_of-text b, flag_of-text c, flag_of-text d) refl
flags4_of-text (a ∷ b ∷ c ∷ d ∷ e ∷ r) h = absurd (omega arith)

pub settings_at_says : (w : List ℕ) (s : Settings) → settings_at w ≡ Some s → SettingsFit s × (w ≡ heading s)
unfolding settings_at heading_of
settings_at_says w s h =
    let p = bound (cut w) _ s h in
    let g = guarded (bytes_eq p.0.0 (codes "heap")) _ s p.2 in
    let a = bound (number_then 4294967295 p.0.1) _ s g.1 in
    let b = bound (number_then 4294967295 a.0.1) _ s a.2 in
    let c = bound (number_then 4294967295 b.0.1) _ s b.2 in
    let d = bound (number_then 4294967295 c.0.1) _ s c.2 in
    let e = bound (number_then 4294967295 d.0.1) _ s d.2 in
    let f = bound (flags4_of e.0.1) _ s e.2 in
    let a_is = number_then_says 4294967295 p.0.1 a.0.0 a.0.1 (omega arith) a.1 in
    let b_is = number_then_says 4294967295 a.0.1 b.0.0 b.0.1 (omega arith) b.1 in
    let c_is = number_then_says 4294967295 b.0.1 c.0.0 c.0.1 (omega arith) c.1 in
    let d_is = number_then_says 4294967295 c.0.1 d.0.0 d.0.1 (omega arith) d.1 in
    let e_is = number_then_says 4294967295 d.0.1 e.0.0 e.0.1 (omega arith) e.1 in
    let f_is = flags4_of_says e.0.1 f.0 f.1 in
    rw (← same_Some _ s f.2) (
      record {
        max_pages = omega (arith, a_is.1);
        stop_age = omega (arith, b_is.1);
        freeze_min_age = omega (arith, c_is.1);
        first_xid = omega (arith, d_is.1);
        dead_limit = omega (arith, e_is.1);
        indexed = f_is.1;
      },
      row_chain w _ _ _ _ _ _ (codes "heap") (decimal a.0.0) (decimal b.0.0) (decimal c.0.0) (decimal d.0.0) (decimal e.0.0) (flat_map flag_text f.0)
          (cut_says w p.0.0 p.0.1 p.1 ∙ ap (λ r. r ++ 32 ∷ p.0.1) (verb_is p.0.0 (codes "heap") g.0)) a_is.0 b_is.0 c_is.0 d_is.0 e_is.0 f_is.0,
    )

pub settings_at-heading : (s : Settings) → SettingsFit s → settings_at (heading s) ≡ Some s
unfolding settings_at heading_of
settings_at-heading s h =
    let pages = h.max_pages in let stop = h.stop_age in let least = h.freeze_min_age in let first = h.first_xid in let dead = h.dead_limit in
    rw (
      cut-free (codes "heap") (decimal s.max_pages ++ spaced (decimal s.stop_age ++ spaced (decimal s.freeze_min_age ++ spaced (decimal s.first_xid ++ spaced (decimal s.dead_limit ++ spaced (flat_map flag_text s.indexed)))))) (refl, (refl, (refl, (refl, tt)))),
      number_then-decimal 4294967295 s.max_pages (decimal s.stop_age ++ spaced (decimal s.freeze_min_age ++ spaced (decimal s.first_xid ++ spaced (decimal s.dead_limit ++ spaced (flat_map flag_text s.indexed))))) (omega arith) (omega arith),
      number_then-decimal 4294967295 s.stop_age (decimal s.freeze_min_age ++ spaced (decimal s.first_xid ++ spaced (decimal s.dead_limit ++ spaced (flat_map flag_text s.indexed)))) (omega arith) (omega arith),
      number_then-decimal 4294967295 s.freeze_min_age (decimal s.first_xid ++ spaced (decimal s.dead_limit ++ spaced (flat_map flag_text s.indexed))) (omega arith) (omega arith),
      number_then-decimal 4294967295 s.first_xid (decimal s.dead_limit ++ spaced (flat_map flag_text s.indexed)) (omega arith) (omega arith),
      number_then-decimal 4294967295 s.dead_limit (flat_map flag_text s.indexed) (omega arith) (omega arith),
      flags4_of-text s.indexed h.indexed,
    ) refl

-- what is read of a first line is what it spells
pub spells_settings : (text : List ℕ) (o : Option Settings) → o ≡ settings_at text → SpellsSettings text o
spells_settings text None e = λ s fit is. none-some s (e ∙ ap settings_at is ∙ settings_at-heading s fit)
spells_settings text (Some s) e = settings_at_says text s (sym e)

pub heading_once : (s t : Settings) → SettingsFit s → SettingsFit t → heading s ≡ heading t → s ≡ t
heading_once s t fit other e = same_Some s t (sym (settings_at-heading s fit) ∙ ap settings_at e ∙ settings_at-heading t other)

-- settings in range fit
pub settings_fit : (s : Settings) → AreSettings s → length s.indexed ≡ 4 → SettingsFit s
settings_fit s h columns =
    let pages = h.max_pages in let stop = h.stop_age in let least = h.freeze_min_age in let first = h.first_xid in let dead = h.dead_limit in
    record {
      max_pages = omega arith;
      stop_age = omega arith;
      freeze_min_age = omega arith;
      first_xid = omega arith;
      dead_limit = omega arith;
      indexed = columns;
    }

flags_free : (bs : List Bool) → Free 10 (flat_map flag_text bs)
flags_free [] = tt
flags_free (true ∷ bs) = (refl, flags_free bs)
flags_free (false ∷ bs) = (refl, flags_free bs)

then_free : (n : ℕ) (r : List ℕ) → n < 2 ^ 64 → Free 10 r → Free 10 (decimal n ++ spaced r)
then_free n r h k = Free-append 10 (decimal n) (spaced r) (decimal_free 10 n (omega arith) (omega arith)) (refl, k)

pub Free-heading : (s : Settings) → AreSettings s → Free 10 (heading s)
Free-heading s h =
    let pages = h.max_pages in let stop = h.stop_age in let least = h.freeze_min_age in let first = h.first_xid in let dead = h.dead_limit in (
      refl,
      (
        refl,
        (
          refl,
          (
            refl,
            (
              refl,
              then_free s.max_pages _ (omega arith) (then_free s.stop_age _ (omega arith) (then_free s.freeze_min_age _ (omega arith) (then_free s.first_xid _ (omega arith) (then_free s.dead_limit _ (omega arith) (flags_free s.indexed))))),
            ),
          ),
        ),
      ),
    )
