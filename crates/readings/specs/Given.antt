-- The settings that definitions read: of a byte and places, and of a value of the code.
use Rattle.std.specs.Prelude.{List, [], ℕ}
use Rattle.rules.specs.Settings as rules
use Rattle.readings.specs.declared.settings.Settings.{Settings}

-- "5 settings", the byte of a tree file; 02, N1: with "the places that count as yes", or with none.
abbrev pub settings_given : List ℕ → ℕ → rules.Settings
settings_given places byte = record { byte = byte; yes = places }

abbrev pub settings_with : ℕ → rules.Settings
settings_with byte = settings_given [] byte

abbrev pub given : Settings → rules.Settings
given s = settings_given s.yes.now s.byte
