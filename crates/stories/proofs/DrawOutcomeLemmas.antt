-- From the first line on.
use Rattle.std.proofs.Common.{◌≡◌, ℕ, ◌⊎◌, inl, inr, List, [], ◌++◌, length, ap, append_assoc, ◌∙◌, sym, subst, Option, None, Some, Result, Ok, Err, IfSome, IsErrAnd}
use Rattle.std.proofs.lemmas.Option.{IfSome_then}
use Rattle.std.proofs.KnownBytes.{Appends-trans}
use Rattle.std.specs.Io.KnownBytes.{Appends}
use Rattle.calls.specs.Words.{AreSettings}
use Rattle.calls.specs.declared.settings.Settings.{Settings}
use Rattle.script.specs.Engine.{WaitingView, IsNewWaiting}
use Rattle.script_text.specs.Grammar.{heading, with_feed}
use Rattle.script.specs.Refusals.{Refusals, IsRefused, IsCaused}
use Rattle.script.specs.Script.{WritesBeginning}
use Rattle.script.specs.Steps.{Uses, MatchesHeading}
use Rattle.script.specs.declared.fault.ShellFault.{ShellFault}
use Rattle.script.specs.declared.fault.ShellFault.TheVariants.{BadLine, BadPage, Input, Output, NoMemory, TooManyLines}
use Rattle.script.proofs.RunLemmas.{Uses-known}
use Rattle.viewing.specs.Viewing.{view_lines}
use Rattle.session_steps.specs.State.{State}
use Rattle.shapes.specs.declared.fault.PictureFault.{PictureFault}
use Rattle.shapes.specs.declared.fault.PictureFault.TheVariants as fault
use Rattle.shapes.specs.Shapes.{IsPictureFault}
use Rattle.viewing.proofs.RunLemmas.{ran_views}
use Rattle.stories.specs.declared.draw_fault.DrawFault.{DrawFault}
use Rattle.stories.specs.declared.draw_fault.DrawFault.TheVariants.{Script, TooManyPages, NoSuchPage}
use Rattle.shapes.specs.Pictures.{AddsText, pages_asked, IsPictureText}
use Rattle.script.proofs.FirstLemmas.{begun_first}
use Rattle.stories.specs.Faults.{fault_in_drawing, IsDrawFault}
use Rattle.stories.specs.DrawOutcomes.{LinesRead, IsFromOutside, IsReadFault, RunsTo, WritesPicture, DrawsFrom, ScriptRead, DrawOutcome, IsDrawCaused}

-- which refusal a fault tells of
pub caused-by : (f : DrawFault) (log : Refusals) → IsReadFault f log → IsDrawCaused f log
caused-by (Script (BadLine n)) log r = tt
caused-by (Script (BadPage b)) log r = tt
caused-by (Script Input) log r = r
caused-by (Script Output) log r = r
caused-by (Script NoMemory) log r = tt
caused-by (Script TooManyLines) log r = tt
caused-by TooManyPages log r = absurd r
caused-by (NoSuchPage p) log r = absurd r

pub caused-first : (f : ShellFault) (log : Refusals) → IsCaused f log → IsDrawCaused (Script f) log
caused-first (BadLine n) log r = tt
caused-first (BadPage b) log r = tt
caused-first Input log r = r
caused-first Output log r = r
caused-first NoMemory log r = tt
caused-first TooManyLines log r = tt

-- a picture that can't be drawn is no refusal that is told
pub caused-drawn : (log : Refusals) (st : WaitingView) (pages : List ℕ) (f : DrawFault) → IsDrawFault st.engine.core pages f → IsDrawCaused f log
caused-drawn log st pages TooManyPages is = tt
caused-drawn log st pages (NoSuchPage p) is = tt
caused-drawn log st pages (Script NoMemory) is = tt
caused-drawn log st pages f is = absurd is

-- Writing.

pub fault-told : (st : State) (pages : List ℕ) (f : PictureFault) → IsPictureFault st pages f → IsDrawFault st pages (fault_in_drawing f)
fault-told st pages fault.TooManyPages is = is
fault-told st pages (fault.NoSuchPage p) is = is.1
fault-told st pages fault.NoMemory is = tt

pub undrawn : (st : WaitingView) (pages : List ℕ) (f : DrawFault) (w : Option (List ℕ)) → IsDrawFault st.engine.core (pages_asked pages st.engine.core) f → Appends w w [] → WritesPicture st pages (Err f) w w
undrawn st pages (Script NoMemory) w is quiet = (tt, inl quiet)
undrawn st pages TooManyPages w is quiet = (quiet, is)
undrawn st pages (NoSuchPage p) w is quiet = (quiet, is)
undrawn st pages f w is quiet = absurd is

picture-of : (st : WaitingView) (pages : List ℕ) (text : List ℕ) → AddsText (IsPictureText st pages) [] text → IsPictureText st pages text
picture-of st pages text a = subst (λ t. IsPictureText st pages t) (sym a.behind) a.is

pub written : (st : WaitingView) (pages text : List ℕ) (w0 w1 : Option (List ℕ)) → AddsText (IsPictureText st (pages_asked pages st.engine.core)) [] text → Appends w0 w1 text → WritesPicture st pages (Ok tt) w0 w1
written st pages text w0 w1 a w = (text, picture-of st (pages_asked pages st.engine.core) text a, w)

pub unwritten : (st : WaitingView) (pages text : List ℕ) (f : ShellFault) (log : Refusals) (w0 w1 : Option (List ℕ)) → AddsText (IsPictureText st (pages_asked pages st.engine.core)) [] text → IsRefused f log
    → WritesBeginning w0 w1 text → WritesPicture st pages (Err (Script f)) w0 w1
unwritten st pages text (BadLine n) log w0 w1 a r w = absurd r
unwritten st pages text (BadPage b) log w0 w1 a r w = absurd r
unwritten st pages text Input log w0 w1 a r w = (tt, inr (text, picture-of st (pages_asked pages st.engine.core) text a, w))
unwritten st pages text Output log w0 w1 a r w = (tt, inr (text, picture-of st (pages_asked pages st.engine.core) text a, w))
unwritten st pages text NoMemory log w0 w1 a r w = (tt, inr (text, picture-of st (pages_asked pages st.engine.core) text a, w))
unwritten st pages text TooManyLines log w0 w1 a r w = absurd r

-- how closing the text ended
pub closed : (st : WaitingView) (pages text : List ℕ) (r : Result (Unit {0}) ShellFault) (log : Refusals) (w0 w1 : Option (List ℕ)) → AddsText (IsPictureText st (pages_asked pages st.engine.core)) [] text
    → ((r ≡ Ok tt) × Appends w0 w1 text) ⊎ (IsErrAnd r (λ e. IsRefused e log) × WritesBeginning w0 w1 text) → (f : ShellFault) → r ≡ Err f
    → WritesPicture st pages (Err (Script f)) w0 w1 × IsDrawCaused (Script f) log
closed st pages text r log w0 w1 a (inl ok) f is = absurd (let e : Ok tt ≡ Err f = sym ok.0 ∙ is in cc e)
closed st pages text r log w0 w1 a (inr err) f is =
    let refused = rw is at err.0 in
    (unwritten st pages text f log w0 w1 a refused err.1, caused-by (Script f) log refused)

pub closed-well : (st : WaitingView) (pages text : List ℕ) (r : Result (Unit {0}) ShellFault) (log : Refusals) (w0 w1 : Option (List ℕ)) → AddsText (IsPictureText st (pages_asked pages st.engine.core)) [] text
    → ((r ≡ Ok tt) × Appends w0 w1 text) ⊎ (IsErrAnd r (λ e. IsRefused e log) × WritesBeginning w0 w1 text) → r ≡ Ok tt → WritesPicture st pages (Ok tt) w0 w1
closed-well st pages text r log w0 w1 a (inl ok) is = written st pages text w0 w1 a ok.1
closed-well st pages text r log w0 w1 a (inr err) is = absurd (rw is at err.0)

-- Behind the lines.

pub lines-undone : (from to : WaitingView) (most : ℕ) (pages input : List ℕ) (f : DrawFault) (w0 w1 : Option (List ℕ)) → RunsTo from to most input (Err f) → Appends w0 w1 [] → DrawsFrom from most pages (Err f) input w0 w1
lines-undone from to most pages input (Script (BadLine n)) w0 w1 h q = (q, h)
lines-undone from to most pages input (Script (BadPage b)) w0 w1 h q = absurd h
lines-undone from to most pages input (Script Input) w0 w1 h q = inl q
lines-undone from to most pages input (Script Output) w0 w1 h q = inl q
lines-undone from to most pages input (Script NoMemory) w0 w1 h q = inl q
lines-undone from to most pages input (Script TooManyLines) w0 w1 h q = absurd h
lines-undone from to most pages input TooManyPages w0 w1 h q = absurd h
lines-undone from to most pages input (NoSuchPage p) w0 w1 h q = absurd h

pub lines-done : (from to : WaitingView) (most : ℕ) (pages input : List ℕ) (r : Result (Unit {0}) DrawFault) (w0 w1 w2 : Option (List ℕ)) → RunsTo from to most input (Ok tt) → Appends w0 w1 []
    → WritesPicture to pages r w1 w2 → DrawsFrom from most pages r input w0 w2
lines-done from to most pages input (Ok u) w0 w1 w2 h q w =
    (h.0, h.2, w.0, subst (λ (st : WaitingView). IsPictureText st (pages_asked pages st.engine.core) w.0) (sym h.1) w.1, Appends-trans w0 w1 w2 [] w.0 q w.2)
lines-done from to most pages input (Err (Script f)) w0 w1 w2 h q w = by f w.0
  where
    ended : Appends w0 w2 [] ⊎ ((read : LinesRead from input) × (picture : List ℕ) × IsPictureText read.last (pages_asked pages read.last.engine.core) picture × WritesBeginning w0 w2 picture)
    ended = how w.1
      where
        how : Appends w1 w2 [] ⊎ ((picture : List ℕ) × IsPictureText to (pages_asked pages to.engine.core) picture × WritesBeginning w1 w2 picture)
            → Appends w0 w2 [] ⊎ ((read : LinesRead from input) × (picture : List ℕ) × IsPictureText read.last (pages_asked pages read.last.engine.core) picture × WritesBeginning w0 w2 picture)
        how (inl none) = inl (Appends-trans w0 w1 w2 [] [] q none)
        how (inr some) = inr (h.0, some.0, subst (λ (st : WaitingView). IsPictureText st (pages_asked pages st.engine.core) some.0) (sym h.1) some.1, begun_first w0 w1 w2 some.0 q some.2)

    by : (f : ShellFault) → IsFromOutside f → DrawsFrom from most pages (Err (Script f)) input w0 w2
    by (BadLine n) o = absurd o
    by (BadPage b) o = absurd o
    by TooManyLines o = absurd o
    by Input o = ended
    by Output o = ended
    by NoMemory o = ended
lines-done from to most pages input (Err TooManyPages) w0 w1 w2 h q w =
    (Appends-trans w0 w1 w2 [] [] q w.0, h.0, h.2, subst (λ (st : WaitingView). IsDrawFault st.engine.core (pages_asked pages st.engine.core) TooManyPages) (sym h.1) w.1)
lines-done from to most pages input (Err (NoSuchPage p)) w0 w1 w2 h q w =
    (Appends-trans w0 w1 w2 [] [] q w.0, h.0, h.2, subst (λ (st : WaitingView). IsDrawFault st.engine.core (pages_asked pages st.engine.core) (NoSuchPage p)) (sym h.1) w.1)

-- what is so of the known input
pub all-known : (o : Option (List ℕ)) (P Q : List ℕ → Type 0) → ((xs : List ℕ) → P xs → Q xs) → IfSome o P → IfSome o Q
all-known None P Q then h = tt
all-known (Some xs) P Q then h = then xs h

-- The whole input, where lines at the front of the bytes behind the first were read.
abbrev pub reads-of : (s : Settings) (from : WaitingView) (input bytes : List ℕ) → AreSettings s → length s.indexed ≡ 4 → IsNewWaiting s from → input ≡ with_feed (heading s) ++ bytes → LinesRead from bytes → ScriptRead input
reads-of s from input bytes fits columns new e h = record {
  settings = s;
  events = h.events;
  run = ran_views s from h.events h.last fits columns new h.allowed h.leads;
  rest = h.rest;
  all = e ∙ ap (λ x. with_feed (heading s) ++ x) h.all ∙ sym (append_assoc (with_feed (heading s)) (view_lines h.events) h.rest);
}

-- no first line
pub no-drawing : (most : ℕ) (pages : List ℕ) (f : ShellFault) (input w0 w1 : Option (List ℕ)) → MatchesHeading f input → Appends w0 w1 [] → IfSome input (λ bytes. DrawOutcome most pages (Err (Script f)) bytes w0 w1)
no-drawing most pages f None w0 w1 h quiet = tt
no-drawing most pages (BadLine n) (Some bytes) w0 w1 h quiet = (quiet, inl h)
no-drawing most pages (BadPage b) (Some bytes) w0 w1 h quiet = absurd h
no-drawing most pages Input (Some bytes) w0 w1 h quiet = inl quiet
no-drawing most pages Output (Some bytes) w0 w1 h quiet = inl quiet
no-drawing most pages NoMemory (Some bytes) w0 w1 h quiet = inl quiet
no-drawing most pages TooManyLines (Some bytes) w0 w1 h quiet = absurd h

ended-behind : (most : ℕ) (pages : List ℕ) (s : Settings) (e : WaitingView) (input bytes : List ℕ) (w0 w1 w2 : Option (List ℕ)) → AreSettings s → length s.indexed ≡ 4 → IsNewWaiting s e
    → input ≡ with_feed (heading s) ++ bytes → Appends w0 w1 [] → Appends w1 w2 [] ⊎ ((read : LinesRead e bytes) × (picture : List ℕ) × IsPictureText read.last (pages_asked pages read.last.engine.core) picture × WritesBeginning w1 w2 picture)
    → Appends w0 w2 [] ⊎ ((read : ScriptRead input) × (picture : List ℕ) × IsPictureText read.run.last (pages_asked pages read.run.last.engine.core) picture × WritesBeginning w0 w2 picture)
ended-behind most pages s e input bytes w0 w1 w2 fits columns new all q (inl none) = inl (Appends-trans w0 w1 w2 [] [] q none)
ended-behind most pages s e input bytes w0 w1 w2 fits columns new all q (inr some) = inr (reads-of s e input bytes fits columns new all some.0, some.1, some.2, begun_first w0 w1 w2 some.1 q some.3)

-- behind a first line
drawn-behind : (most : ℕ) (pages : List ℕ) (s : Settings) (e : WaitingView) (input bytes : List ℕ) (r : Result (Unit {0}) DrawFault) (w0 w1 w2 : Option (List ℕ)) → AreSettings s → length s.indexed ≡ 4 → IsNewWaiting s e
    → input ≡ with_feed (heading s) ++ bytes → Appends w0 w1 [] → DrawsFrom e most pages r bytes w1 w2 → DrawOutcome most pages r input w0 w2
drawn-behind most pages s e input bytes (Ok u) w0 w1 w2 fits columns new all q h =
    (reads-of s e input bytes fits columns new all h.0, h.1, h.2, h.3, Appends-trans w0 w1 w2 [] h.2 q h.4)
drawn-behind most pages s e input bytes (Err (Script (BadLine n))) w0 w1 w2 fits columns new all q h =
    (Appends-trans w0 w1 w2 [] [] q h.0, inr (reads-of s e input bytes fits columns new all h.1.0, h.1.1, h.1.2))
drawn-behind most pages s e input bytes (Err (Script (BadPage b))) w0 w1 w2 fits columns new all q h = absurd h
drawn-behind most pages s e input bytes (Err (Script TooManyLines)) w0 w1 w2 fits columns new all q h = absurd h
drawn-behind most pages s e input bytes (Err (Script Input)) w0 w1 w2 fits columns new all q h = ended-behind most pages s e input bytes w0 w1 w2 fits columns new all q h
drawn-behind most pages s e input bytes (Err (Script Output)) w0 w1 w2 fits columns new all q h = ended-behind most pages s e input bytes w0 w1 w2 fits columns new all q h
drawn-behind most pages s e input bytes (Err (Script NoMemory)) w0 w1 w2 fits columns new all q h = ended-behind most pages s e input bytes w0 w1 w2 fits columns new all q h
drawn-behind most pages s e input bytes (Err TooManyPages) w0 w1 w2 fits columns new all q h =
    (Appends-trans w0 w1 w2 [] [] q h.0, reads-of s e input bytes fits columns new all h.1, h.2, h.3)
drawn-behind most pages s e input bytes (Err (NoSuchPage p)) w0 w1 w2 fits columns new all q h =
    (Appends-trans w0 w1 w2 [] [] q h.0, reads-of s e input bytes fits columns new all h.1, h.2, h.3)

pub drawn-from_first : (most : ℕ) (pages : List ℕ) (s : Settings) (e : WaitingView) (before now : Option (List ℕ)) (p : List ℕ) (r : Result (Unit {0}) DrawFault) (w0 w1 w2 : Option (List ℕ)) → IsNewWaiting s e → AreSettings s
    → length s.indexed ≡ 4 → Uses before now [] (with_feed (heading s)) p → Appends w0 w1 [] → IfSome now (λ rest. DrawsFrom e most pages r (p ++ rest) w1 w2) → IfSome before (λ input. DrawOutcome most pages r input w0 w2)
drawn-from_first most pages s e before now p r w0 w1 w2 new fits columns uses q h =
    IfSome_then before (Uses-known before now [] (with_feed (heading s)) p uses) (λ input k. drawn-behind most pages s e input (p ++ k.0) r w0 w1 w2 fits columns new k.2 q (rw k.1 at h))
