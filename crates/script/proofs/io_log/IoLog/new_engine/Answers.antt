use Rattle.calls.proofs.SettingsLemmas.{out_of_range}
use Rattle.script.proofs.io_log.IoLog.new_engine.Goals as goal

pub returns-in_default-clause-made : goal.returns-in_default-clause-made
returns-in_default-clause-made g c = λ fits. out_of_range c.args.settings c.in-Err.fault c.in-Err.ensures.fault c.in_default.not-NoMemory fits
