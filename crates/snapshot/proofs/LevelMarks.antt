-- What marks say of levels.
use Rattle.std.proofs.Common.{◌≡◌, ◌≢◌, ℕ, zero, suc, nat_lt, ◌<◌, ◌≤◌, ◌+◌, ◌-◌, ◌==◌, Bool, true, false, if◌then◌else◌, List, [], ◌∷◌, ◌++◌, length, take, drop, reverse, replicate, slice_get, arith, refl, sym, ap, ◌∙◌, subst}
use Rattle.std.proofs.lemmas.Bool.{cond-true, cond-false}
use Rattle.std.proofs.lemmas.Bool.Decides.{nat_tests}
use Rattle.std.proofs.lemmas.List.{map_push, take_all, take_at, drop_at, take-append-drop, length-take-le, length-drop, length-append, length-map, length-reverse, length-replicate, reverse-append, replicate_more}
use Rattle.std.specs.List.{refill}
use Rattle.xid_circle.specs.declared.Xid.{Xid}
use Rattle.commit_status.specs.Changes.{numbers}
use Rattle.snapshot.specs.Own.{unassigned_levels, current_xid, prefixes, saved_with, ArePrefixes, AreMarks}
use Rattle.snapshot.proofs.Marks.{prefixes-append, prefixes-take, marks-more}
use Rattle.snapshot.proofs.Levels.{unassigned_levels-more, unassigned_levels-nothing, level-below, level-own}

-- how many levels lack an id, by the marks, the newest first
abbrev pub lacks_by : ℕ → List ℕ → ℕ
lacks_by count [] = if count == 0 then 1 else 0
lacks_by count (mark ∷ marks) = if mark == count then suc (lacks_by count marks) else 0

pub lacks_by-within : (count : ℕ) (marks : List ℕ) → lacks_by count marks ≤ length marks + 1
lacks_by-within count [] = cases (count == 0) refl
  where
    cases : (b : Bool) → (count == 0) ≡ b → lacks_by count [] ≤ length {A = ℕ} [] + 1
    cases true t = let same : lacks_by count [] ≡ 1 = cond-true (count == 0) 1 0 t in omega arith
    cases false t = let same : lacks_by count [] ≡ 0 = cond-false (count == 0) 1 0 t in omega arith
lacks_by-within count (mark ∷ marks) = let rest = lacks_by-within count marks in cases (mark == count) refl rest
  where
    cases : (b : Bool) → (mark == count) ≡ b → lacks_by count marks ≤ length marks + 1 → lacks_by count (mark ∷ marks) ≤ length (mark ∷ marks) + 1
    cases true t rest = let it = cond-true (mark == count) (suc (lacks_by count marks)) 0 t in omega arith
    cases false t rest = let it = cond-false (mark == count) (suc (lacks_by count marks)) 0 t in omega arith

take-count : (ids : List ℕ) (n : ℕ) → n ≡ length ids → take n ids ≡ ids
take-count ids n e = ap (λ k. take k ids) e ∙ take_all (length ids) ids (omega arith)

pub unassigned_levels-marks : (ids marks : List ℕ) → AreMarks (length ids) marks → unassigned_levels ids (prefixes ids marks) ≡ lacks_by (length ids) marks
unassigned_levels-marks ids [] are = refl
unassigned_levels-marks ids (mark ∷ marks) are =
    let long = length-take-le mark ids are.0 in
    let rest = (λ (e : mark ≡ length ids). unassigned_levels-marks ids marks (subst (λ n. AreMarks n marks) e are.1)) in
    cases (mark == length ids) refl long rest
  where
    cases : (b : Bool) → (mark == length ids) ≡ b → length (take mark ids) ≡ mark → (mark ≡ length ids → unassigned_levels ids (prefixes ids marks) ≡ lacks_by (length ids) marks)
        → unassigned_levels ids (prefixes ids (mark ∷ marks)) ≡ lacks_by (length ids) (mark ∷ marks)
    cases true t long rest =
        let same : mark ≡ length ids = grind (arith, nat_tests) in
        unassigned_levels-more ids (take mark ids) (prefixes ids marks) (omega arith)
        ∙ ap (λ l. suc (unassigned_levels l (prefixes ids marks))) (take-count ids mark same)
        ∙ ap suc (rest same)
        ∙ sym (cond-true (mark == length ids) (suc (lacks_by (length ids) marks)) 0 t)
    cases false t long rest =
        let other : mark ≢ length ids = grind (arith, nat_tests) in
        unassigned_levels-nothing ids (take mark ids) (prefixes ids marks) (λ h. absurd (omega arith))
        ∙ sym (cond-false (mark == length ids) (suc (lacks_by (length ids) marks)) 0 t)

-- where the newest level that has an id begins, by the marks, the newest first
abbrev pub start_by : ℕ → List ℕ → ℕ
start_by count [] = 0
start_by count (mark ∷ marks) = if nat_lt mark count then mark else start_by count marks

level-marks : (ids marks : List ℕ) → AreMarks (length ids) marks → current_xid ids (prefixes ids marks) ≡ slice_get ids (start_by (length ids) marks)
level-marks ids [] are = refl
level-marks ids (mark ∷ marks) are =
    let long = length-take-le mark ids are.0 in
    let rest = (λ (e : mark ≡ length ids). level-marks ids marks (subst (λ n. AreMarks n marks) e are.1)) in
    cases (nat_lt mark (length ids)) refl are.0 long rest
  where
    cases : (b : Bool) → nat_lt mark (length ids) ≡ b → mark ≤ length ids → length (take mark ids) ≡ mark
        → (mark ≡ length ids → current_xid ids (prefixes ids marks) ≡ slice_get ids (start_by (length ids) marks))
        → current_xid ids (prefixes ids (mark ∷ marks)) ≡ slice_get ids (start_by (length ids) (mark ∷ marks))
    cases true t le long rest =
        let less : mark < length ids = grind (arith, nat_tests) in
        level-own ids (take mark ids) (prefixes ids marks) (λ h. absurd (omega arith))
        ∙ ap (slice_get ids) (long ∙ sym (cond-true (nat_lt mark (length ids)) mark (start_by (length ids) marks) t))
    cases false t le long rest =
        let same : mark ≡ length ids = grind (arith, nat_tests) in
        level-below ids (take mark ids) (prefixes ids marks) (omega arith)
        ∙ ap (λ l. current_xid l (prefixes ids marks)) (take-count ids mark same)
        ∙ rest same
        ∙ ap (slice_get ids) (sym (cond-false (nat_lt mark (length ids)) mark (start_by (length ids) marks) t))

-- each mark's prefix is a prefix of the next
pub prefixes-marks : (ids marks : List ℕ) → AreMarks (length ids) marks → ArePrefixes ids (prefixes ids marks)
prefixes-marks ids [] are = tt
prefixes-marks ids (mark ∷ marks) are =
    let long = length-take-le mark ids are.0 in
    let older = prefixes-marks (take mark ids) marks (subst (λ n. AreMarks n marks) (sym long) are.1) in
    (drop mark ids, sym (take-append-drop mark ids), subst (ArePrefixes (take mark ids)) (prefixes-take marks ids mark mark are.1 (omega arith)) older)

-- Marks at an id that is added: of those, the newest first, that are raised, each is the number of ids, since their levels lack one.

all-raised : (above n : ℕ) → AreMarks n (replicate above n ++ [])
all-raised zero n = tt
all-raised (suc above) n = (omega arith, all-raised above n)

pub marks-raised : (marks : List ℕ) (count above : ℕ) → AreMarks count marks → AreMarks (count + 1) (replicate above (count + 1) ++ drop above marks)
marks-raised marks count zero are = marks-more marks count (count + 1) are (omega arith)
marks-raised [] count (suc above) are = all-raised (suc above) (count + 1)
marks-raised (mark ∷ marks) count (suc above) are = (omega arith, marks-raised marks count above (marks-more marks mark count are.1 are.0))

pub prefixes-raised : (marks ids : List ℕ) (x above : ℕ) → AreMarks (length ids) marks → lacks_by (length ids) marks ≡ suc above
    → saved_with above x (prefixes ids marks) ≡ prefixes (ids ++ x ∷ []) (replicate above (length ids + 1) ++ drop above marks)
prefixes-raised marks ids x zero are e = sym (prefixes-append marks ids (x ∷ []) (length ids) are (omega arith))
prefixes-raised [] ids x (suc above) are e = absurd (let most = lacks_by-within (length ids) [] in omega arith)
prefixes-raised (mark ∷ marks) ids x (suc above) are e =
    cases (mark == length ids) refl (λ same rest. prefixes-raised marks ids x above (subst (λ n. AreMarks n marks) same are.1) rest)
  where
    cases : (b : Bool) → (mark == length ids) ≡ b
        → (mark ≡ length ids → lacks_by (length ids) marks ≡ suc above
        → saved_with above x (prefixes ids marks) ≡ prefixes (ids ++ x ∷ []) (replicate above (length ids + 1) ++ drop above marks))
        → saved_with (suc above) x (prefixes ids (mark ∷ marks)) ≡ prefixes (ids ++ x ∷ []) (replicate (suc above) (length ids + 1) ++ drop (suc above) (mark ∷ marks))
    cases true t rest =
        let same : mark ≡ length ids = grind (arith, nat_tests) in
        let it = cond-true (mark == length ids) (suc (lacks_by (length ids) marks)) 0 t in
        let all : take (length ids + 1) (ids ++ x ∷ []) ≡ ids ++ x ∷ [] = take-count (ids ++ x ∷ []) (length ids + 1) (sym (length-append ids (x ∷ []))) in
        let here : take mark ids ++ x ∷ [] ≡ take (length ids + 1) (ids ++ x ∷ []) = ap (λ l. l ++ x ∷ []) (take-count ids mark same) ∙ sym all in
        let more = rest same (omega arith) in
        cc
    cases false t rest = let it = cond-false (mark == length ids) (suc (lacks_by (length ids) marks)) 0 t in absurd (omega arith)

-- The same of the lists as they are kept, the oldest mark first.

pub marks-numbers : (ids : List Xid) (marks : List ℕ) → AreMarks (length ids) marks → AreMarks (length (numbers ids)) marks
marks-numbers ids marks are = subst (λ n. AreMarks n marks) (sym (length-map ids (λ (x : Xid). x.0))) are

pub unassigned_levels-kept : (ids : List Xid) (marks : List ℕ) → AreMarks (length ids) (reverse marks)
    → unassigned_levels (numbers ids) (prefixes (numbers ids) (reverse marks)) ≡ lacks_by (length ids) (reverse marks)
unassigned_levels-kept ids marks are =
    unassigned_levels-marks (numbers ids) (reverse marks) (marks-numbers ids (reverse marks) are)
    ∙ ap (λ n. lacks_by n (reverse marks)) (length-map ids (λ (x : Xid). x.0))

pub level-kept : (ids : List Xid) (marks : List ℕ) → AreMarks (length ids) (reverse marks)
    → current_xid (numbers ids) (prefixes (numbers ids) (reverse marks)) ≡ slice_get (numbers ids) (start_by (length ids) (reverse marks))
level-kept ids marks are =
    level-marks (numbers ids) (reverse marks) (marks-numbers ids (reverse marks) are)
    ∙ ap (λ n. slice_get (numbers ids) (start_by n (reverse marks))) (length-map ids (λ (x : Xid). x.0))

pub above-within : (ids : List Xid) (marks : List ℕ) (n : ℕ) → AreMarks (length ids) (reverse marks)
    → n ≡ unassigned_levels (numbers ids) (prefixes (numbers ids) (reverse marks)) → n - 1 ≤ length marks
above-within ids marks n are e =
    let same = unassigned_levels-kept ids marks are in
    let most = lacks_by-within (length ids) (reverse marks) in
    let long = length-reverse marks in
    omega arith

reverse-replicate : (n mark : ℕ) → reverse (replicate n mark) ≡ replicate n mark
reverse-replicate zero mark = refl
reverse-replicate (suc n) mark =
    let more : n + 1 ≡ suc n = omega arith in
    reverse-append (mark ∷ []) (replicate n mark) ∙ ap (λ l. l ++ mark ∷ []) (reverse-replicate n mark) ∙ replicate_more n mark ∙ ap (λ k. replicate k mark) more

reverse-take : (marks : List ℕ) (above : ℕ) → above ≤ length marks → reverse (take (length marks - above) marks) ≡ drop above (reverse marks)
reverse-take marks above within =
    let kept = length marks - above in
    let apart : reverse marks ≡ reverse (drop kept marks) ++ reverse (take kept marks) =
    ap reverse (sym (take-append-drop kept marks)) ∙ reverse-append (take kept marks) (drop kept marks) in
    let long : length (reverse (drop kept marks)) ≡ above = length-reverse (drop kept marks) ∙ length-drop kept marks ∙ (omega arith) in
    sym (ap (drop above) apart ∙ drop_at (reverse (drop kept marks)) (reverse (take kept marks)) above long)

pub raised-reverse : (marks new : List ℕ) (above mark : ℕ) → above ≤ length marks → new ≡ take (length marks - above) marks ++ replicate above mark
    → reverse new ≡ replicate above mark ++ drop above (reverse marks)
raised-reverse marks new above mark within e =
    ap reverse e ∙ reverse-append (take (length marks - above) marks) (replicate above mark)
    ∙ ap (λ l. l ++ reverse (take (length marks - above) marks)) (reverse-replicate above mark)
    ∙ ap (λ l. replicate above mark ++ l) (reverse-take marks above within)

raised-length : (marks new : List ℕ) (above mark : ℕ) → above ≤ length marks → new ≡ take (length marks - above) marks ++ replicate above mark → length new ≡ length marks
raised-length marks new above mark within e =
    let cut = length-take-le (length marks - above) marks (omega arith) in
    let more = length-replicate above mark in
    ap length e ∙ length-append (take (length marks - above) marks) (replicate above mark) ∙ (omega arith)

-- marks that are written back whole
pub raised-whole : (marks new : List ℕ) (above mark : ℕ) → above ≤ length marks → new ≡ take (length marks - above) marks ++ replicate above mark → refill (length marks) marks new ≡ new
raised-whole marks new above mark within e = take_at new (drop (length new) marks) (length marks) (raised-length marks new above mark within e)

-- what an added id leaves
pub record Added (ids : List Xid) (marks : List ℕ) (x : Xid) (n : ℕ) (new : List ℕ) : Type 0 where
  pub ordered : AreMarks (length (ids ++ x ∷ [])) (reverse new)
  pub saved : prefixes (numbers (ids ++ x ∷ [])) (reverse new) ≡ saved_with (n - 1) x.0 (prefixes (numbers ids) (reverse marks))
  pub count : length new ≡ length marks

pub added : (ids : List Xid) (marks new : List ℕ) (x : Xid) (n : ℕ) → AreMarks (length ids) (reverse marks)
    → n ≡ unassigned_levels (numbers ids) (prefixes (numbers ids) (reverse marks)) → 0 < n
    → new ≡ take (length marks - (n - 1)) marks ++ replicate (n - 1) (length (ids ++ x ∷ [])) → Added ids marks x n new
added ids marks new x n are lacking some e =
    let within = above-within ids marks n are lacking in
    let long : length (ids ++ x ∷ []) ≡ length ids + 1 = length-append ids (x ∷ []) in
    let turned : reverse new ≡ replicate (n - 1) (length ids + 1) ++ drop (n - 1) (reverse marks) =
    raised-reverse marks new (n - 1) (length (ids ++ x ∷ [])) within e
    ∙ ap (λ k. replicate (n - 1) k ++ drop (n - 1) (reverse marks)) long in
    let numbered : length (numbers ids) ≡ length ids = length-map ids (λ (y : Xid). y.0) in
    let by = unassigned_levels-kept ids marks are in
    let lacked : lacks_by (length ids) (reverse marks) ≡ suc (n - 1) = omega arith in
    record {
      ordered = subst (λ k. AreMarks k (reverse new)) (sym long) (subst (AreMarks (length ids + 1)) (sym turned) (marks-raised (reverse marks) (length ids) (n - 1) are));
      saved =
          ap (λ l. prefixes l (reverse new)) (map_push (λ (y : Xid). y.0) ids x)
          ∙ ap (prefixes (numbers ids ++ x.0 ∷ [])) turned
          ∙ ap (λ k. prefixes (numbers ids ++ x.0 ∷ []) (replicate (n - 1) (k + 1) ++ drop (n - 1) (reverse marks))) (sym numbered)
          ∙ sym (prefixes-raised (reverse marks) (numbers ids) x.0 (n - 1) (marks-numbers ids (reverse marks) are) (ap (λ k. lacks_by k (reverse marks)) numbered ∙ lacked));
      count = raised-length marks new (n - 1) (length (ids ++ x ∷ [])) within e;
    }
