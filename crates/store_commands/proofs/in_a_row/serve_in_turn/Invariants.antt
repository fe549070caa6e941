use Rattle.std.proofs.Common.{◌≡◌, Some}
use Rattle.plist_state.specs.State.{WorldState}
use Rattle.store_commands.specs.Accounts.{EndsAccount}
use Rattle.store_commands.proofs.Turns.{Row}
use Rattle.store_commands.proofs.in_a_row.serve_in_turn.Given as goal

-- the sessions so far, the last of which ended so, and the account of the recipient after it
abbrev pub invariant-sessions : goal.invariant-sessions
invariant-sessions g l =
    (l.store.macros ≡ l.fn.store.macros)
    × ((world : WorldState) → l.fn.store.world ≡ Some world
    → Row g.M.Meaning.Meaning.functions l.fn.wanted g.D.Disk.state l.fn.store world
    (g.I.Read.remaining l.fn.input) (g.O.Recipient.contents l.fn.output) l.store (g.I.Read.remaining l.input) (g.O.Recipient.contents l.output) l.ended)
    × EndsAccount g.M.Meaning.Meaning.functions g.D.Disk.state l.store (g.O.Recipient.account l.output)
    × (g.O.Recipient.first l.output ≡ g.O.Recipient.first l.fn.output)
