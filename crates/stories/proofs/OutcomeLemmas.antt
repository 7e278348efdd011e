-- From the first line on.
use Rattle.std.proofs.Common.{◌≡◌, ℕ, ◌⊎◌, inl, inr, List, [], ◌++◌, length, refl, ap, ◌∙◌, sym, subst, Option, None, Some, Result, Ok, Err, IfSome, IsErrAnd}
use Rattle.std.proofs.lemmas.Option.{IfSome_then}
use Rattle.std.proofs.KnownBytes.{Appends-trans}
use Rattle.std.specs.Io.KnownBytes.{Appends}
use Rattle.calls.specs.Words.{AreSettings}
use Rattle.calls.specs.declared.settings.Settings.{Settings}
use Rattle.script.specs.Engine.{WaitingView, IsNewWaiting}
use Rattle.script_text.specs.Grammar.{heading, with_feed}
use Rattle.script.specs.Refusals.{Refusals, IsRefused}
use Rattle.script.specs.Script.{WritesBeginning}
use Rattle.script.specs.declared.fault.ShellFault.{ShellFault}
use Rattle.script.specs.declared.fault.ShellFault.TheVariants.{BadLine, BadPage, Input, Output, NoMemory, TooManyLines as NumbersRanOut}
use Rattle.script.proofs.RunLemmas.{Uses-known}
use Rattle.script.proofs.FirstLemmas.{begun_first, no_heading}
use Rattle.viewing.specs.Viewing.{ViewEvent}
use Rattle.stories.specs.declared.draw_fault.DrawFault.{DrawFault}
use Rattle.stories.specs.declared.draw_fault.DrawFault.TheVariants.{Script, TooManyPages, NoSuchPage}
use Rattle.shapes.specs.Pictures.{AddsText}
use Rattle.stories.specs.DrawOutcomes.{LinesRead, IsReadFault, IsDrawCaused, ScriptRead, IsFromOutside}
use Rattle.stories.proofs.ReadLemmas.{is-from_outside}
use Rattle.stories.proofs.DrawOutcomeLemmas.{caused-by, reads-of}
use Rattle.stories.specs.declared.fault.StoryFault.{StoryFault}
use Rattle.stories.specs.declared.fault.StoryFault.TheVariants.{Drawing, TooManyLines}
use Rattle.stories.specs.Html.{first_item, items_html}
use Rattle.stories.specs.Telling.{IsFirstTold, AreTold, IsUndrawn, IsTellFault}
use Rattle.stories.specs.Outcomes.{page_html, MatchesFirst, MakesTable, TellsAll, WritesPage, IsStory, TellsFrom, StoryOutcome, IsStoryCaused}

-- Faults of pictures and of reads.

pub picture-caused : (e : WaitingView) (f : DrawFault) (log : Refusals) → IsUndrawn e f → IsDrawCaused f log
picture-caused e TooManyPages log is = tt
picture-caused e (Script NoMemory) log is = tt
picture-caused e f log is = absurd is

pub tell-caused : (line : List ℕ) (from to : WaitingView) (f : DrawFault) (log : Refusals) → IsTellFault line from to f → IsDrawCaused f log
tell-caused line from to TooManyPages log is = tt
tell-caused line from to (Script NoMemory) log is = tt
tell-caused line from to f log is = absurd is

pub read-fails : (f : DrawFault) (log : Refusals) (input : Option (List ℕ)) → IsReadFault f log → MatchesFirst f input
read-fails (Script f) log input r = no_heading f log input r
read-fails TooManyPages log input r = absurd r
read-fails (NoSuchPage p) log input r = absurd r

pub line-spelled : (old new text line : List ℕ) → new ≡ old ++ text → old ≡ [] → text ≡ line → new ≡ line
line-spelled old new text line added none is = added ∙ ap (λ x. x ++ text) none ∙ is

-- The page, as it is written.

pub page-refused : (items told page : List ℕ) (w0 w1 : Option (List ℕ)) (f : ShellFault) (log : Refusals) → page ≡ page_html items told → IsRefused f log → WritesBeginning w0 w1 page
    → WritesPage (page_html items told) w0 w1 (Err (Drawing (Script f))) × IsStoryCaused (Drawing (Script f)) log
page-refused items told page w0 w1 f log is r a =
    ((is-from_outside f log r, inr (subst (λ x. WritesBeginning w0 w1 x) is a)), caused-by (Script f) log r)

-- how closing the page ended
pub page-closed : (items told page : List ℕ) (r : Result (Unit {0}) ShellFault) (log : Refusals) (w0 w1 : Option (List ℕ)) → page ≡ page_html items told
    → ((r ≡ Ok tt) × Appends w0 w1 page) ⊎ (IsErrAnd r (λ e. IsRefused e log) × WritesBeginning w0 w1 page) → (f : ShellFault) → r ≡ Err f
    → WritesPage (page_html items told) w0 w1 (Err (Drawing (Script f))) × IsStoryCaused (Drawing (Script f)) log
page-closed items told page r log w0 w1 is (inl ok) f e = absurd (let k : Ok tt ≡ Err f = sym ok.0 ∙ e in cc k)
page-closed items told page r log w0 w1 is (inr err) f e = page-refused items told page w0 w1 f log is (rw e at err.0) err.1

pub page-closed-well : (items told page : List ℕ) (r : Result (Unit {0}) ShellFault) (log : Refusals) (w0 w1 : Option (List ℕ)) → page ≡ page_html items told
    → ((r ≡ Ok tt) × Appends w0 w1 page) ⊎ (IsErrAnd r (λ e. IsRefused e log) × WritesBeginning w0 w1 page) → r ≡ Ok tt → WritesPage (page_html items told) w0 w1 (Ok tt)
page-closed-well items told page r log w0 w1 is (inl ok) e = subst (λ x. Appends w0 w1 x) is ok.1
page-closed-well items told page r log w0 w1 is (inr err) e = absurd (rw e at err.0)

-- From the table that the first line made.

pub first-untold : (e : WaitingView) (line bytes : List ℕ) (f : DrawFault) (w0 w1 : Option (List ℕ)) → Appends w0 w1 [] → IsUndrawn e f → TellsFrom e line bytes w0 w1 (Err (Drawing f))
first-untold e line bytes TooManyPages w0 w1 q h = (q, record { events = []; allowed = tt; last = e; leads = refl; rest = bytes; all = refl }, h)
first-untold e line bytes (Script NoMemory) w0 w1 q h = inl q
first-untold e line bytes f w0 w1 q h = absurd h

lines-untold : (from to : WaitingView) (line items items' told told' bytes : List ℕ) (f : StoryFault) (w0 w1 : Option (List ℕ)) → TellsAll from to items items' told told' bytes (Err f) → Appends w0 w1 []
    → TellsFrom from line bytes w0 w1 (Err f)
lines-untold from to line items items' told told' bytes (Drawing (Script (BadLine n))) w0 w1 h q = (q, h)
lines-untold from to line items items' told told' bytes (Drawing (Script (BadPage b))) w0 w1 h q = absurd h
lines-untold from to line items items' told told' bytes (Drawing (Script NumbersRanOut)) w0 w1 h q = absurd h
lines-untold from to line items items' told told' bytes (Drawing (Script Input)) w0 w1 h q = inl q
lines-untold from to line items items' told told' bytes (Drawing (Script Output)) w0 w1 h q = inl q
lines-untold from to line items items' told told' bytes (Drawing (Script NoMemory)) w0 w1 h q = inl q
lines-untold from to line items items' told told' bytes (Drawing TooManyPages) w0 w1 h q = (q, h.0, h.1)
lines-untold from to line items items' told told' bytes (Drawing (NoSuchPage p)) w0 w1 h q = absurd h
lines-untold from to line items items' told told' bytes TooManyLines w0 w1 h q = (q, h.0, h.1, h.2)

pub lines-untold-behind : (from behind to : WaitingView) (line items items' told told' bytes : List ℕ) (f : StoryFault) (w0 w1 : Option (List ℕ)) → behind ≡ from → TellsAll behind to items items' told told' bytes (Err f)
    → Appends w0 w1 [] → TellsFrom from line bytes w0 w1 (Err f)
lines-untold-behind from behind to line items items' told told' bytes f w0 w1 same h q =
    lines-untold from to line items items' told told' bytes f w0 w1 (subst (λ (st : WaitingView). TellsAll st to items items' told told' bytes (Err f)) same h) q

-- the texts of a story are those of its lines, from none on
story-is : (from last : WaitingView) (events : List ViewEvent) (line none none' items items' told told' : List ℕ) → none ≡ [] → none' ≡ [] → items ≡ none ++ first_item line → AddsText (IsFirstTold from line) none' told
    → items' ≡ items ++ items_html events → AddsText (AreTold from events last) told told' → IsStory line from events last (page_html items' told')
story-is from last events line none none' items items' told told' n m i a j b = record {
  of_first = a.text;
  first_told = a.is;
  of_rest = b.text;
  rest_told = b.is;
  is = ap (λ x. page_html x told') (j ∙ ap (λ x. x ++ items_html events) (i ∙ ap (λ x. x ++ first_item line) n))
      ∙ ap (λ x. page_html (first_item line ++ items_html events) x) (b.behind ∙ ap (λ x. x ++ b.text) (a.behind ∙ ap (λ x. x ++ a.text) m));
}

story-read : (from to : WaitingView) (line none none' items' items'' told' told'' bytes : List ℕ) → none ≡ [] → none' ≡ [] → items' ≡ none ++ first_item line → AddsText (IsFirstTold from line) none' told'
    → (t : TellsAll from to items' items'' told' told'' bytes (Ok tt)) → IsStory line from t.0.events t.0.last (page_html items'' told'')
story-read from to line none none' items' items'' told' told'' bytes n m i a t =
    story-is from t.0.last t.0.events line none none' items' items'' told' told'' n m i a t.4 (subst (λ (st : WaitingView). AddsText (AreTold from t.0.events st) told' told'') (sym t.1) t.5)

lines-told : (from to : WaitingView) (line none none' items' items'' told' told'' bytes : List ℕ) (r : Result (Unit {0}) StoryFault) (w0 w1 w2 : Option (List ℕ)) → none ≡ [] → none' ≡ [] → items' ≡ none ++ first_item line
    → AddsText (IsFirstTold from line) none' told' → TellsAll from to items' items'' told' told'' bytes (Ok tt) → Appends w0 w1 [] → WritesPage (page_html items'' told'') w1 w2 r → TellsFrom from line bytes w0 w2 r
lines-told from to line none none' items' items'' told' told'' bytes (Ok u) w0 w1 w2 n m i a t q w =
    (t.0, t.2, t.3, page_html items'' told'', story-read from to line none none' items' items'' told' told'' bytes n m i a t, Appends-trans w0 w1 w2 [] (page_html items'' told'') q w)
lines-told from to line none none' items' items'' told' told'' bytes (Err (Drawing (Script f))) w0 w1 w2 n m i a t q w = by f w.0
  where
    ended : Appends w0 w2 [] ⊎ ((read : LinesRead from bytes) × (read.rest ≡ []) × (page : List ℕ) × IsStory line from read.events read.last page × WritesBeginning w0 w2 page)
    ended = how w.1
      where
        how : Appends w1 w2 [] ⊎ WritesBeginning w1 w2 (page_html items'' told'')
            → Appends w0 w2 [] ⊎ ((read : LinesRead from bytes) × (read.rest ≡ []) × (page : List ℕ) × IsStory line from read.events read.last page × WritesBeginning w0 w2 page)
        how (inl nothing) = inl (Appends-trans w0 w1 w2 [] [] q nothing)
        how (inr some) =
            inr (t.0, t.2, page_html items'' told'', story-read from to line none none' items' items'' told' told'' bytes n m i a t, begun_first w0 w1 w2 (page_html items'' told'') q some)

    by : (f : ShellFault) → IsFromOutside f → TellsFrom from line bytes w0 w2 (Err (Drawing (Script f)))
    by (BadLine m) o = absurd o
    by (BadPage b) o = absurd o
    by NumbersRanOut o = absurd o
    by Input o = ended
    by Output o = ended
    by NoMemory o = ended
lines-told from to line none none' items' items'' told' told'' bytes (Err (Drawing TooManyPages)) w0 w1 w2 n m i a t q w = absurd w
lines-told from to line none none' items' items'' told' told'' bytes (Err (Drawing (NoSuchPage p))) w0 w1 w2 n m i a t q w = absurd w
lines-told from to line none none' items' items'' told' told'' bytes (Err TooManyLines) w0 w1 w2 n m i a t q w = absurd w

pub lines-told-behind : (from behind to : WaitingView) (line none none' items' items'' told' told'' bytes listed sections : List ℕ) (r : Result (Unit {0}) StoryFault) (w0 w1 w2 : Option (List ℕ)) → behind ≡ from → none ≡ [] → none' ≡ []
    → items' ≡ none ++ first_item line → AddsText (IsFirstTold from line) none' told' → TellsAll behind to items' items'' told' told'' bytes (Ok tt) → Appends w0 w1 [] → listed ≡ items'' → sections ≡ told''
    → WritesPage (page_html listed sections) w1 w2 r → TellsFrom from line bytes w0 w2 r
lines-told-behind from behind to line none none' items' items'' told' told'' bytes listed sections r w0 w1 w2 same n m i a t q l s w =
    lines-told from to line none none' items' items'' told' told'' bytes r w0 w1 w2 n m i a (subst (λ (st : WaitingView). TellsAll st to items' items'' told' told'' bytes (Ok tt)) same t) q
    (subst (λ x. WritesPage (page_html items'' x) w1 w2 r) s (subst (λ x. WritesPage (page_html x sections) w1 w2 r) l w))

-- The whole input.

pub no-story : (f : DrawFault) (input w0 w1 : Option (List ℕ)) → MatchesFirst f input → Appends w0 w1 [] → IfSome input (λ bytes. StoryOutcome (Err (Drawing f)) bytes w0 w1)
no-story f None w0 w1 h quiet = tt
no-story (Script (BadLine n)) (Some bytes) w0 w1 h quiet = (quiet, inl h)
no-story (Script (BadPage b)) (Some bytes) w0 w1 h quiet = absurd h
no-story (Script Input) (Some bytes) w0 w1 h quiet = inl quiet
no-story (Script Output) (Some bytes) w0 w1 h quiet = inl quiet
no-story (Script NoMemory) (Some bytes) w0 w1 h quiet = inl quiet
no-story (Script NumbersRanOut) (Some bytes) w0 w1 h quiet = absurd h
no-story TooManyPages (Some bytes) w0 w1 h quiet = absurd h
no-story (NoSuchPage p) (Some bytes) w0 w1 h quiet = absurd h

ended-behind : (s : Settings) (e : WaitingView) (input bytes : List ℕ) (w0 w1 w2 : Option (List ℕ)) → AreSettings s → length s.indexed ≡ 4 → IsNewWaiting s e → input ≡ with_feed (heading s) ++ bytes → Appends w0 w1 []
    → Appends w1 w2 [] ⊎ ((read : LinesRead e bytes) × (read.rest ≡ []) × (page : List ℕ) × IsStory (heading s) e read.events read.last page × WritesBeginning w1 w2 page)
    → Appends w0 w2 [] ⊎ ((read : ScriptRead input) × (read.rest ≡ []) × (page : List ℕ) × IsStory (heading read.settings) read.run.first read.events read.run.last page × WritesBeginning w0 w2 page)
ended-behind s e input bytes w0 w1 w2 fits columns new all q (inl nothing) = inl (Appends-trans w0 w1 w2 [] [] q nothing)
ended-behind s e input bytes w0 w1 w2 fits columns new all q (inr some) =
    inr (reads-of s e input bytes fits columns new all some.0, some.1, some.2, some.3, begun_first w0 w1 w2 some.2 q some.4)

-- behind a first line
told-behind : (s : Settings) (e : WaitingView) (input bytes : List ℕ) (r : Result (Unit {0}) StoryFault) (w0 w1 w2 : Option (List ℕ)) → AreSettings s → length s.indexed ≡ 4 → IsNewWaiting s e
    → input ≡ with_feed (heading s) ++ bytes → Appends w0 w1 [] → TellsFrom e (heading s) bytes w1 w2 r → StoryOutcome r input w0 w2
told-behind s e input bytes (Ok u) w0 w1 w2 fits columns new all q h =
    (reads-of s e input bytes fits columns new all h.0, h.1, h.2, h.3, h.4, Appends-trans w0 w1 w2 [] h.3 q h.5)
told-behind s e input bytes (Err (Drawing (Script (BadLine n)))) w0 w1 w2 fits columns new all q h =
    (Appends-trans w0 w1 w2 [] [] q h.0, inr (reads-of s e input bytes fits columns new all h.1.0, h.1.1, h.1.2))
told-behind s e input bytes (Err (Drawing (Script (BadPage b)))) w0 w1 w2 fits columns new all q h = absurd h
told-behind s e input bytes (Err (Drawing (Script NumbersRanOut))) w0 w1 w2 fits columns new all q h = absurd h
told-behind s e input bytes (Err (Drawing (Script Input))) w0 w1 w2 fits columns new all q h = ended-behind s e input bytes w0 w1 w2 fits columns new all q h
told-behind s e input bytes (Err (Drawing (Script Output))) w0 w1 w2 fits columns new all q h = ended-behind s e input bytes w0 w1 w2 fits columns new all q h
told-behind s e input bytes (Err (Drawing (Script NoMemory))) w0 w1 w2 fits columns new all q h = ended-behind s e input bytes w0 w1 w2 fits columns new all q h
told-behind s e input bytes (Err (Drawing TooManyPages)) w0 w1 w2 fits columns new all q h =
    (Appends-trans w0 w1 w2 [] [] q h.0, reads-of s e input bytes fits columns new all h.1, h.2)
told-behind s e input bytes (Err (Drawing (NoSuchPage p))) w0 w1 w2 fits columns new all q h = absurd h
told-behind s e input bytes (Err TooManyLines) w0 w1 w2 fits columns new all q h =
    (Appends-trans w0 w1 w2 [] [] q h.0, reads-of s e input bytes fits columns new all h.1, h.2, h.3)

pub told-from_first : (e : WaitingView) (line given : List ℕ) (before now : Option (List ℕ)) (p : List ℕ) (r : Result (Unit {0}) StoryFault) (w0 w1 w2 : Option (List ℕ)) → MakesTable e line before now p → Appends w0 w1 [] → given ≡ line
    → IfSome now (λ rest. TellsFrom e given (p ++ rest) w1 w2 r) → IfSome before (λ input. StoryOutcome r input w0 w2)
told-from_first e line given before now p r w0 w1 w2 b q l h =
    IfSome_then before (Uses-known before now [] (with_feed (heading b.0)) p b.5) (λ input k.
    told-behind b.0 e input (p ++ k.0) r w0 w1 w2 b.2 b.3 b.1 k.2 q (subst (λ x. TellsFrom e x (p ++ k.0) w1 w2 r) (l ∙ b.4) (rw k.1 at h)))
