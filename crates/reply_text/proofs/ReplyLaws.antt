-- What is read of a reply is spelled so, and what is spelled so is read.
use Rattle.std.proofs.Common.{◌≡◌, ℕ, ◌+◌, ◌-◌, ◌^◌, ◌<◌, ◌≤◌, List, [], ◌∷◌, ◌++◌, length, refl, ap, ◌∙◌, sym, arith, Option, None, Some, true, cond, ◌&&◌, inl, inr, codes, Result, Ok, Err, IfOk}
use Rattle.std.specs.Option.{option_map}
use Rattle.std.specs.List.{AllByRecursion}
use Rattle.std.specs.Str.{bytes_eq}
use Rattle.std.specs.Fmt.{decimal}
use Rattle.std.proofs.lemmas.Option.{none-some, same_Some}
use Rattle.std.proofs.lemmas.Bool.{and_parts}
use Rattle.tuple_header.specs.declared.version.Row.{Row}
use Rattle.calls.specs.declared.reply.Refusal.{Refusal}
use Rattle.calls.specs.declared.reply.Refusal.TheVariants as refusal
use Rattle.calls.specs.declared.reply.Reply.{Reply}
use Rattle.calls.specs.declared.reply.Reply.TheVariants as reply
use Rattle.calls.specs.declared.vacuum.Piece.TheVariants as piece
use Rattle.script_text.specs.Grammar.{spaced}
use Rattle.script_text.specs.Answers.{found_text, key_text, labelled, refusal_text, reply_text, row_lines, key_lines}
use Rattle.script_text.specs.Reading.{◌>>=◌, cut, number_of}
use Rattle.script_text.proofs.ByteLemmas.{Free, free_text}
use Rattle.script_text.proofs.NumberLaws.{guarded, bound, mapped, cut_says, cut-free, number_of_says, number_of-decimal}
use Rattle.script_text.proofs.GrammarLaws.{verb_is}
use Rattle.script_text.proofs.PlanLaws.{chosen}
use Rattle.reply_text.specs.Replies.{TableRowFits, AllFit, RefusalFits, ReplyFits, SpellsReply}
use Rattle.reply_text.specs.Reading.{Telling, plain, rows, keys, told, table_row_of, row_line_of, key_line_of, counted_of, Named, usual_refusals, other_refusals, refusal_in, busy_of, refusal_or, refusal_named, Sayings, row_sayings, vacuum_sayings, saying_in, phrase_or, told_of}
use Rattle.reply_text.proofs.LineLaws.{AreLines, counted_of_says, counted_of-lines}
use Rattle.reply_text.proofs.RowLaws.{table_row_of_says, table_row_of-text, rows_are_lines, keys_are_lines}

-- The number and the name of a refusal.

busy_of_says : (words : List ℕ) (r : Refusal) → busy_of words ≡ Some r → RefusalFits r × (words ≡ refusal_text r)
unfolding busy_of
busy_of_says words r h =
    let number = bound (cut words) _ r h in
    let name = bound (cut number.0.1) _ r number.2 in
    let g = guarded (bytes_eq number.0.0 (codes "7") && bytes_eq name.0.0 (codes "Busy")) _ r name.2 in
    let t = and_parts (bytes_eq number.0.0 (codes "7")) (bytes_eq name.0.0 (codes "Busy")) g.0 in
    let m = mapped (number_of 255 name.0.1) _ r g.1 in
    let says = number_of_says 255 name.0.1 m.0 (omega arith) m.1 in
    let behind : number.0.1 ≡ codes "Busy" ++ 32 ∷ decimal m.0 =
    cut_says number.0.1 name.0.0 name.0.1 name.1 ∙ ap (λ w. w ++ 32 ∷ name.0.1) (verb_is name.0.0 (codes "Busy") t.1) ∙ ap (λ n. codes "Busy" ++ 32 ∷ n) says.0 in
    rw (← m.2) (
      omega (arith, says.1),
      cut_says words number.0.0 number.0.1 number.1 ∙ ap (λ w. w ++ 32 ∷ number.0.1) (verb_is number.0.0 (codes "7") t.0) ∙ ap (λ n. codes "7" ++ 32 ∷ n) behind,
    )

-- what a name means is spelled so
abbrev IsNamed : List ℕ × Refusal → Type 0
IsNamed named = RefusalFits named.1 × (named.0 ≡ refusal_text named.1)

all_named : AllByRecursion IsNamed (usual_refusals ++ other_refusals)
all_named = ((tt, refl), ((tt, refl), ((tt, refl), ((tt, refl), ((tt, refl), ((tt, refl), ((tt, refl), ((tt, refl), ((tt, refl), ((tt, refl), ((tt, refl), ((tt, refl), ((tt, refl), ((tt, refl), ((tt, refl), ((tt, refl), ((tt, refl), ((tt, refl), ((tt, refl), ((tt, refl), ((tt, refl), ((tt, refl), ((tt, refl), ((tt, refl), tt))))))))))))))))))))))))

refusal_in_says : (table : Named) (words : List ℕ) (r : Refusal) → AllByRecursion IsNamed table → refusal_in table words ≡ Some r → RefusalFits r × (words ≡ refusal_text r)
refusal_in_says [] words r all h = absurd (none-some r h)
refusal_in_says (named ∷ others) words r all h = elim (chosen (bytes_eq words named.0) (Some named.1) (refusal_in others words) (Some r) h) [
  | inl a ↦ rw (← same_Some named.1 r a.1) (all.0.0, verb_is words named.0 a.0 ∙ all.0.1)
  | inr a ↦ refusal_in_says others words r all.1 a.1
]

named_says : (o : Option Refusal) (words : List ℕ) (r : Refusal) → busy_of words ≡ o → refusal_or o words ≡ Some r → RefusalFits r × (words ≡ refusal_text r)
named_says None words r e h = refusal_in_says (usual_refusals ++ other_refusals) words r all_named h
named_says (Some b) words r e h = busy_of_says words r (e ∙ h)

refusal_named_says : (words : List ℕ) (r : Refusal) → refusal_named words ≡ Some r → RefusalFits r × (words ≡ refusal_text r)
unfolding refusal_named
refusal_named_says words r h = named_says (busy_of words) words r refl h

busy_of-words : (number name : List ℕ) (s : ℕ) → Free 32 number → Free 32 name → bytes_eq number (codes "7") ≡ true → bytes_eq name (codes "Busy") ≡ true → s < 2 ^ 8
    → busy_of (number ++ 32 ∷ (name ++ 32 ∷ decimal s)) ≡ Some (refusal.Busy s)
unfolding busy_of
busy_of-words number name s free free' is is' small =
    rw (cut-free number (name ++ 32 ∷ decimal s) free, cut-free name (decimal s) free', is, is', number_of-decimal 255 s (omega arith) (omega arith)) refl

refusal_named-text : (r : Refusal) → RefusalFits r → refusal_named (refusal_text r) ≡ Some r
unfolding refusal_named busy_of number_of
refusal_named-text (refusal.Busy s) fits =
    ap (λ (o : Option Refusal). refusal_or o (refusal_text (refusal.Busy s))) (busy_of-words (codes "7") (codes "Busy") s (free_text 32 (codes "7") refl) (free_text 32 (codes "Busy") refl) refl refl fits)
refusal_named-text refusal.NotOpen fits = refl
refusal_named-text refusal.AlreadyOpen fits = refl
refusal_named-text refusal.Failed fits = refl
refusal_named-text refusal.AlreadyThere fits = refl
refusal_named-text refusal.NotThere fits = refl
refusal_named-text refusal.Conflict fits = refl
refusal_named-text refusal.Deadlock fits = refl
refusal_named-text refusal.CursorOpen fits = refl
refusal_named-text refusal.NoCursor fits = refl
refusal_named-text refusal.TooDeep fits = refl
refusal_named-text refusal.NoSavepoint fits = refl
refusal_named-text refusal.TooLarge fits = refl
refusal_named-text refusal.NoRoom fits = refl
refusal_named-text refusal.NeedsFreeze fits = refl
refusal_named-text refusal.NoMemory fits = refl
refusal_named-text refusal.VacuumRunning fits = refl
refusal_named-text refusal.NoVacuum fits = refl
refusal_named-text refusal.NoSuchPage fits = refl
refusal_named-text refusal.NoSuchIndex fits = refl
refusal_named-text refusal.Stale fits = refl
refusal_named-text refusal.IndexTooNew fits = refl
refusal_named-text refusal.NoSuchSession fits = refl
refusal_named-text refusal.BadBounds fits = refl
refusal_named-text refusal.IndexBusy fits = refl

-- The text of what is told, and the ranges of its numbers.

abbrev telling_text : Telling → List ℕ
telling_text (plain reply) = reply_text reply
telling_text (rows found) = labelled (codes "rows") (length found) ++ row_lines found
telling_text (keys found) = labelled (codes "keys") (length found) ++ key_lines found

abbrev TellingFits : Telling → Type 0
TellingFits (plain reply) = ReplyFits reply
TellingFits (rows found) = AllFit (λ row. TableRowFits row) found
TellingFits (keys found) = AllFit (λ key. key < 2 ^ 64) found

told_is : (reply : Reply) → (TellingFits (told reply) → ReplyFits reply) × (telling_text (told reply) ≡ reply_text reply)
told_is reply.Done = (λ h. h, refl)
told_is (reply.Found row) = (λ h. h, refl)
told_is reply.Committed = (λ h. h, refl)
told_is reply.RolledBack = (λ h. h, refl)
told_is (reply.Rows found) = (λ h. h, refl)
told_is (reply.Keys found) = (λ h. h, refl)
told_is reply.End = (λ h. h, refl)
told_is (reply.Worked piece) = (λ h. h, refl)
told_is (reply.Ended first) = (λ h. h, refl)
told_is (reply.Refused r) = (λ h. h, refl)

-- What is read is spelled so.

-- what a first word says is spelled so
abbrev IsSaid : List ℕ × (List ℕ → Option Telling) → Type 0
IsSaid saying = (rest : List ℕ) (t : Telling) → saying.1 rest ≡ Some t → TellingFits t × (saying.0 ++ spaced rest ≡ telling_text t)

said : {A : Type 0} (word : List ℕ) (read : List ℕ → Option A) (make : A → Telling) (text : A → List ℕ) → ((xs : List ℕ) (a : A) → read xs ≡ Some a → TellingFits (make a) × (xs ≡ text a))
    → ((a : A) → word ++ spaced (text a) ≡ telling_text (make a)) → IsSaid (word, λ rest. option_map make (read rest))
said word read make text says spells rest t h =
    let m = mapped (read rest) make t h in
    let is = says rest m.0 m.1 in
    rw (← m.2) (is.0, ap (λ r. word ++ spaced r) is.1 ∙ spells m.0)

number_said : (word : List ℕ) (max : ℕ) (make : ℕ → Telling) → max < 10 ^ 64 → ((n : ℕ) → n ≤ max → TellingFits (make n)) → ((n : ℕ) → word ++ spaced (decimal n) ≡ telling_text (make n))
    → IsSaid (word, λ rest. option_map make (number_of max rest))
number_said word max make small fits spells =
    said word (number_of max) make (λ n. decimal n) (λ xs n h. let is = number_of_says max xs n small h in (fits n is.1, is.0)) spells

all_said : AllByRecursion IsSaid (row_sayings ++ vacuum_sayings)
unfolding labelled
all_said = (
  said (codes "row") table_row_of (λ row. plain (reply.Found (Some row))) _ table_row_of_says (λ row. refl),
  (
    said (codes "error") refusal_named (λ r. plain (reply.Refused r)) refusal_text refusal_named_says (λ r. refl),
    (
      said (codes "rows") (counted_of row_line_of) (λ found. rows found) (λ found. decimal (length found) ++ row_lines found)
          (λ xs found h. counted_of_says row_line_of (λ row. found_text row) (λ row. TableRowFits row) xs found rows_are_lines h) (λ found. refl),
      (
        said (codes "keys") (counted_of key_line_of) (λ found. keys found) (λ found. decimal (length found) ++ key_lines found)
            (λ xs found h. counted_of_says key_line_of (λ key. key_text key) (λ key. key < 2 ^ 64) xs found keys_are_lines h) (λ found. refl),
        (
          number_said (codes "heap") 4294967295 (λ p. plain (reply.Worked (piece.Heap p))) (omega arith) (λ p h. omega (arith, h)) (λ p. refl),
          (
            number_said (codes "index") 255 (λ i. plain (reply.Worked (piece.Index i))) (omega arith) (λ i h. omega (arith, h)) (λ i. refl),
            (
              number_said (codes "free") 4294967295 (λ p. plain (reply.Worked (piece.Free p))) (omega arith) (λ p h. omega (arith, h)) (λ p. refl),
              (number_said (codes "ended") 4294967295 (λ first. plain (reply.Ended first)) (omega arith) (λ first h. omega (arith, h)) (λ first. refl), tt),
            ),
          ),
        ),
      ),
    ),
  ),
)

saying_in_says : (table : Sayings) (word rest : List ℕ) (t : Telling) → AllByRecursion IsSaid table → saying_in table word rest ≡ Some t → TellingFits t × (word ++ spaced rest ≡ telling_text t)
saying_in_says [] word rest t all h = absurd (none-some t h)
saying_in_says (saying ∷ others) word rest t all h = elim (chosen (bytes_eq word saying.0) (saying.1 rest) (saying_in others word rest) (Some t) h) [
  | inl a ↦ let says = all.0 rest t a.1 in (says.0, ap (λ w. w ++ spaced rest) (verb_is word saying.0 a.0) ∙ says.1)
  | inr a ↦ saying_in_says others word rest t all.1 a.1
]

-- one phrase, and else what others say
phrase_says : (text phrase : List ℕ) (this : Telling) (others : Option Telling) (t : Telling) → cond (bytes_eq text phrase) (Some this) others ≡ Some t → TellingFits this × (phrase ≡ telling_text this)
    → (others ≡ Some t → TellingFits t × (text ≡ telling_text t)) → TellingFits t × (text ≡ telling_text t)
phrase_says text phrase this others t h says more = elim (chosen (bytes_eq text phrase) (Some this) others (Some t) h) [
  | inl a ↦ rw (← same_Some this t a.1) (says.0, verb_is text phrase a.0 ∙ says.1)
  | inr a ↦ more a.1
]

told_of_says : (text : List ℕ) (t : Telling) → told_of text ≡ Some t → TellingFits t × (text ≡ telling_text t)
unfolding told_of
told_of_says text t h =
    phrase_says text (codes "ok") (plain reply.Done) _ t h (tt, refl) (λ h1.
    phrase_says text (codes "none") (plain (reply.Found None)) _ t h1 (tt, refl) (λ h2.
    phrase_says text (codes "committed") (plain reply.Committed) _ t h2 (tt, refl) (λ h3.
    phrase_says text (codes "rolled back") (plain reply.RolledBack) _ t h3 (tt, refl) (λ h4.
    phrase_says text (codes "end") (plain reply.End) _ t h4 (tt, refl) (λ h5.
    let p = bound (cut text) _ t h5 in
    let says = saying_in_says (row_sayings ++ vacuum_sayings) p.0.0 p.0.1 t all_said p.2 in
    (says.0, cut_says text p.0.0 p.0.1 p.1 ∙ says.1))))))

-- What is spelled so is read.

with_word : (word rest : List ℕ) (t : Option Telling) → Free 32 word → ((others : Option Telling) → phrase_or (word ++ 32 ∷ rest) others ≡ others) → saying_in (row_sayings ++ vacuum_sayings) word rest ≡ t
    → told_of (word ++ 32 ∷ rest) ≡ t
unfolding told_of
with_word word rest t free past same = past _ ∙ rw (cut-free word rest free) same

pub told_of-text : (reply : Reply) → ReplyFits reply → told_of (reply_text reply) ≡ Some (told reply)
unfolding told_of labelled
told_of-text reply.Done h = refl
told_of-text (reply.Found None) h = refl
told_of-text (reply.Found (Some row)) h =
    with_word (codes "row") _ _ (free_text 32 (codes "row") refl) (λ others. refl) (ap (λ (o : Option Row). option_map (λ row. plain (reply.Found (Some row))) o) (table_row_of-text row h))
told_of-text reply.Committed h = refl
told_of-text reply.RolledBack h = refl
told_of-text (reply.Rows found) h =
    with_word (codes "rows") (decimal (length found.items) ++ row_lines found.items) _ (free_text 32 (codes "rows") refl) (λ others. refl)
    (ap (λ (o : Option (List Row)). option_map (λ found. rows found) o) (counted_of-lines row_line_of (λ row. found_text row) (λ row. TableRowFits row) found.items rows_are_lines h))
told_of-text (reply.Keys found) h =
    with_word (codes "keys") (decimal (length found.items) ++ key_lines found.items) _ (free_text 32 (codes "keys") refl) (λ others. refl)
    (ap (λ (o : Option (List ℕ)). option_map (λ found. keys found) o) (counted_of-lines key_line_of (λ key. key_text key) (λ key. key < 2 ^ 64) found.items keys_are_lines h))
told_of-text reply.End h = refl
told_of-text (reply.Worked (piece.Heap p)) h =
    with_word (codes "heap") (decimal p) _ (free_text 32 (codes "heap") refl) (λ others. refl) (ap (λ (o : Option ℕ). option_map (λ p. plain (reply.Worked (piece.Heap p))) o) (number_of-decimal 4294967295 p (omega arith) (omega arith)))
told_of-text (reply.Worked (piece.Index i)) h =
    with_word (codes "index") (decimal i) _ (free_text 32 (codes "index") refl) (λ others. refl) (ap (λ (o : Option ℕ). option_map (λ i. plain (reply.Worked (piece.Index i))) o) (number_of-decimal 255 i (omega arith) (omega arith)))
told_of-text (reply.Worked (piece.Free p)) h =
    with_word (codes "free") (decimal p) _ (free_text 32 (codes "free") refl) (λ others. refl) (ap (λ (o : Option ℕ). option_map (λ p. plain (reply.Worked (piece.Free p))) o) (number_of-decimal 4294967295 p (omega arith) (omega arith)))
told_of-text (reply.Ended first) h =
    with_word (codes "ended") (decimal first) _ (free_text 32 (codes "ended") refl) (λ others. refl) (ap (λ (o : Option ℕ). option_map (λ first. plain (reply.Ended first)) o) (number_of-decimal 4294967295 first (omega arith) (omega arith)))
told_of-text (reply.Refused r) h =
    with_word (codes "error") (refusal_text r) _ (free_text 32 (codes "error") refl) (λ others. refl) (ap (λ (o : Option Refusal). option_map (λ r. plain (reply.Refused r)) o) (refusal_named-text r h))

-- what is read of a text is what it spells
spells : (text : List ℕ) (o : Option Reply) → option_map told o ≡ told_of text → SpellsReply text o
spells text None e = λ reply fits is. none-some (told reply) (e ∙ ap told_of is ∙ told_of-text reply fits)
spells text (Some reply) e =
    let says = told_of_says text (told reply) (sym e) in
    let is = told_is reply in
    (is.0 says.0, says.1 ∙ is.1)

pub spells_read : {E : Type 0} (r : Result (Option Reply) E) (text : List ℕ) → IfOk r (λ o. option_map told o ≡ told_of text) → IfOk r (λ o. SpellsReply text o)
spells_read (Ok o) text h = spells text o h
spells_read (Err e) text h = tt
