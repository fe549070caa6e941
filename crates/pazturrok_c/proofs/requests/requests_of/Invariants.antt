use Rattle.std.specs.Prelude.{◌≡◌, ◌++◌, drop, map}
use Rattle.pazturrok_c.specs.Requests.{request_in, requests_in}
use Rattle.pazturrok_c.proofs.requests.requests_of.Given as goal

-- the requests so far, and those that are left
abbrev pub invariant-loop-head : goal.invariant-loop-head
invariant-loop-head l = map request_in l.requests.items ++ requests_in l.start l.rest (drop l.head-index l.heads) ≡ requests_in 0 l.fn.bytes l.heads
