-- A run goes on by one entry.
use Rattle.std.proofs.Common.{◌≡◌, List, [], ◌∷◌, ◌++◌, refl, sym, subst}
use Rattle.history.specs.World.{World, beginning}
use Rattle.calls.specs.declared.settings.Settings.{Settings}
use Rattle.calls.specs.declared.step.Step.{Step}
use Rattle.calls.specs.declared.reply.Reply.{Reply}
use Rattle.refinement.specs.Allowed.{after}
use Rattle.session_core.specs.State.{WaitingView, WaitingAgrees}
use Rattle.session_core.specs.Clauses.{WaitingExact, WaitingFollows, IsNewWaiting}
use Rattle.session_core.specs.Runs.{RepliesLead}
use Rattle.session_core.proofs.Running.{Leads-run}
use Rattle.shared_heap.specs.Books.{BookView, noted_steps, noted_replies, IsBookOf, IsRunOf, IsBook, HasRun, Appends}

Leads-push : (old : WaitingView) (entries : List (Step × Reply)) (mid : WaitingView) (step : Step) (reply : Reply) (new : WaitingView)
    → RepliesLead old (noted_steps entries) (noted_replies entries) mid → WaitingFollows mid step reply new → WaitingExact mid step reply new
    → RepliesLead old (noted_steps (entries ++ (step, reply) ∷ [])) (noted_replies (entries ++ (step, reply) ∷ [])) new
Leads-push old [] mid step reply new led follows exact =
    (new, subst (λ (st : WaitingView). WaitingFollows st step reply new) (sym led) follows, subst (λ (st : WaitingView). WaitingExact st step reply new) (sym led) exact, refl)
Leads-push old (e ∷ es) mid step reply new led follows exact =
    (led.0, led.1, led.2, Leads-push led.0 es mid step reply new led.3 follows exact)

-- a new engine with no entries
pub IsBookOf-new : (settings : Settings) (st : WaitingView) (entries : List (Step × Reply)) → IsNewWaiting settings st → entries ≡ [] → IsBookOf settings (record { engine = st; journal = entries })
IsBookOf-new settings st entries new empty =
    record { first = st; new = new; leads = subst (λ (es : List (Step × Reply)). RepliesLead st (noted_steps es) (noted_replies es) st) (sym empty) refl }

pub IsBookOf-more : (settings : Settings) (old new : BookView) (step : Step) (reply : Reply) → IsBookOf settings old → new.journal ≡ old.journal ++ (step, reply) ∷ []
    → WaitingFollows old.engine step reply new.engine → WaitingExact old.engine step reply new.engine → IsBookOf settings new
IsBookOf-more settings old new step reply made journal follows exact = record {
  first = made.first;
  new = made.new;
  leads = subst (λ (es : List (Step × Reply)). RepliesLead made.first (noted_steps es) (noted_replies es) new.engine) (sym journal)
      (Leads-push made.first old.journal old.engine step reply new.engine made.leads follows exact);
}

pub IsBookOf-appends : (settings : Settings) (old new : BookView) (step : Step) (reply : Reply) → IsBookOf settings old → Appends old step reply new → IsBookOf settings new
IsBookOf-appends settings old new step reply made appends = IsBookOf-more settings old new step appends.noted made appends.journal appends.follows appends.exact

pub IsBook-more : (old new : BookView) (step : Step) (reply : Reply) → IsBook old → new.journal ≡ old.journal ++ (step, reply) ∷ []
    → WaitingFollows old.engine step reply new.engine → WaitingExact old.engine step reply new.engine → IsBook new
IsBook-more old new step reply book journal follows exact =
    record { settings = book.settings; made = IsBookOf-more book.settings old new step reply book.made journal follows exact }

-- the journal is a run of the history, with whose end the engine agrees
pub IsBookOf-run : (settings : Settings) (book : BookView) → IsBookOf settings book → IsRunOf settings book
IsBookOf-run settings book made =
    let ran = Leads-run (beginning settings.indexed) made.first (noted_steps book.journal) (noted_replies book.journal) book.engine made.new.agrees made.leads in
    record { run = ran.0; agrees = ran.1 }

pub IsBook-run : (book : BookView) → IsBook book → HasRun book
IsBook-run book is = (is.settings, IsBookOf-run is.settings book is.made)

-- the world with which the engine agrees
abbrev pub world_of : (book : BookView) → IsBook book → World
world_of book is = after (beginning is.settings.indexed) (noted_steps book.journal) (noted_replies book.journal)

pub IsBook-agrees : (book : BookView) (is : IsBook book) → WaitingAgrees book.engine (world_of book is)
IsBook-agrees book is = (IsBookOf-run is.settings book is.made).agrees
