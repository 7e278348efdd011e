-- The making of an index, and what it does to a vacuum that runs.
use Rattle.std.proofs.Common.{◌≡◌, ℕ, false, Option, Some, None, refl, sym, ap, ◌∙◌}
use Rattle.std.specs.Prelude.{IsSome}
use Rattle.std.specs.Option.{option_map}
use Rattle.calls.specs.declared.step.Step.TheVariants as step
use Rattle.calls.specs.declared.reply.Reply.TheVariants as reply
use Rattle.calls.specs.declared.reply.Refusal.{Refusal}
use Rattle.calls.specs.declared.reply.Refusal.TheVariants as refusal
use Rattle.vacuum_passes.specs.View.{VacuumView, disturbed}
use Rattle.session_steps.specs.State.{State}
use Rattle.session_steps.specs.Making.{LacksIndexOn, HasOrMakes, RefusesIndexOn}
use Rattle.vacuum_engine.specs.State.{EngineView}
use Rattle.vacuum_engine.specs.Exact.{EngineExact}

-- an engine by its parts
abbrev engine_of : State → Option VacuumView → EngineView
engine_of st o = record { core = st; vacuum = o }

engine-is : (e : EngineView) (st : State) (o : Option VacuumView) → e.core ≡ st → e.vacuum ≡ o → e ≡ engine_of st o
engine-is e st o same has = ap (λ (x : State). engine_of x e.vacuum) same ∙ ap (λ (x : Option VacuumView). engine_of st x) has

none-unless_some : (o : Option VacuumView) → ¬ IsSome o → o ≡ None
none-unless_some None off = refl
none-unless_some (Some v) off = absurd (off refl)

module _ (old new : EngineView) (c : ℕ) (vacuum : new.vacuum ≡ option_map (disturbed false) old.vacuum) where
  pub create-barred : IsSome old.vacuum × LacksIndexOn old.core c → new.core ≡ old.core → EngineExact old (step.CreateIndex c) (reply.Refused refusal.VacuumRunning) new
  create-barred bars same = (bars.1, bars.0, engine-is new old.core (option_map (disturbed false) old.vacuum) same vacuum)

  -- which is alone where the index is not there
  alone : ¬ (IsSome old.vacuum × LacksIndexOn old.core c) → LacksIndexOn old.core c → old.vacuum ≡ None
  alone off lacks = none-unless_some old.vacuum (λ some. off (some, lacks))

  unchanged : ¬ (IsSome old.vacuum × LacksIndexOn old.core c) → LacksIndexOn old.core c → new.core ≡ old.core → new ≡ old
  unchanged off lacks same =
      let none = alone off lacks in
      engine-is new old.core old.vacuum same (vacuum ∙ (ap (option_map (disturbed false)) none ∙ sym none))

  pub create-refused : (r : Refusal) → ¬ (IsSome old.vacuum × LacksIndexOn old.core c) → RefusesIndexOn old.core c r → new.core ≡ old.core → EngineExact old (step.CreateIndex c) (reply.Refused r) new
  create-refused refusal.NoSuchIndex off over same = (over, engine-is new old.core (option_map (disturbed false) old.vacuum) same vacuum)
  create-refused refusal.IndexBusy off refuses same = (refuses, alone off refuses.0, unchanged off refuses.0 same)
  create-refused refusal.NoMemory off refuses same = (refuses, alone off refuses.0, unchanged off refuses.0 same)
  create-refused _ off refuses same = absurd refuses

  pub create-done : ¬ (IsSome old.vacuum × LacksIndexOn old.core c) → HasOrMakes old.core new.core c → EngineExact old (step.CreateIndex c) reply.Done new
  create-done off does = (does, λ lacks. alone off lacks, vacuum)
