-- The settings of an engine, as C writes them.
use Rattle.calls.specs.declared.settings.Settings as calls
use Rattle.c_views.specs.declared.settings.SandpiperSettings.{SandpiperSettings}

abbrev pub settings_of : SandpiperSettings → calls.Settings
settings_of s = record { max_pages = s.max_pages; stop_age = s.stop_age; freeze_min_age = s.freeze_min_age; first_xid = s.first_xid; dead_limit = s.dead_limit; indexed = s.indexed }
