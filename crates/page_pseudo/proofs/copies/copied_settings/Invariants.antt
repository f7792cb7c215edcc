use Rattle.std.proofs.Common.{◌≡◌, ◌++◌, drop}
use Rattle.page_pseudo.proofs.copies.copied_settings.Given as goal

abbrev pub invariant-loop-setting : goal.invariant-loop-setting
invariant-loop-setting l = l.copies ++ drop l.setting-index l.settings ≡ l.settings
