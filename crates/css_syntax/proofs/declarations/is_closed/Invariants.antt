use Rattle.std.proofs.Common.{◌≡◌, [], drop}
use Rattle.css_semantics.specs.SheetsReading.{still_awaited}
use Rattle.css_syntax.proofs.declarations.is_closed.Given as goal

abbrev pub invariant-loop-token : goal.invariant-loop-token
invariant-loop-token l = still_awaited l.marks (drop l.token-index l.tokens) ≡ still_awaited [] l.tokens
