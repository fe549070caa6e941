use Rattle.std.proofs.Common.{inl, ◌≡◌, ◌+◌, ◌-◌, ◌≤◌, ◌++◌, ◌∷◌, ◌∙◌, [], ℕ, List, sym, ap, length, take, drop, Bor}
use Rattle.disk_trait.specs.Orders.{writes}
use Rattle.device_disk.specs.DeviceCalls.{DeviceCall, done}
use Rattle.device_disk.specs.Pieces.{joined_pieces}
use Rattle.device_disk.proofs.Pieces.{writes_more, bytes_left, place_behind}
use Rattle.device_disk.proofs.whole.write_whole.Goals as goal
use Rattle.device_disk.proofs.whole.write_whole.Goals.{in-Done, in-Interrupted}

-- the write took nothing: that is one piece more, which is empty
pub returns-in-Done-eq0 : goal.returns-in-Done-eq0
returns-in-Done-eq0 g c =
    let far = c.pieces.invariant in
    let rest = c.pieces.rest.now in
    let n = c.in-Done-eq0.field-0 in
    let piece = take n rest in
    let within : n ≤ length rest = c.in-Done-eq0.ensures.0 in
    record {
      pieces = far.0 ++ piece ∷ [];
      rest = take (length rest - n) (drop n rest);
      all = bytes_left c.args.bytes.now rest far.0 n within far.1;
      calls = inl (c.in-Done-eq0.ensures.1 ∙ ap (λ (l : List DeviceCall). done (writes c.args.half c.pieces.place piece) ∷ l) far.3
          ∙ sym (writes_more c.args.half c.args.at c.pieces.place far.0 piece (g.V.Device.calls c.args.device.now) far.2));
    }

pub pieces-preserved : goal.pieces-preserved
pieces-preserved g c =
    let far = c.pieces.invariant in
    let rest = c.pieces.rest.now in
    elim c.match-write_at.branch [
      | in-Done w ↦ (
          let n = w.in-Done.count in
          let piece = take n rest in
          let within : n ≤ length rest = w.in-Done.ensures.0 in
          let left : c.match-write_at.rest.now ≡ take (length rest - n) (drop n rest) = ap (λ (r : Bor (List ℕ)). r.now) w.rest-is in
          let place : c.match-write_at.place ≡ c.pieces.place + n = (let is = w.place-is in cc) in (
            far.0 ++ piece ∷ [],
            bytes_left c.args.bytes.now rest far.0 n within far.1 ∙ ap (λ (l : List ℕ). joined_pieces (far.0 ++ piece ∷ []) ++ l) (sym left),
            place ∙ place_behind c.args.at c.pieces.place n far.0 rest within far.2,
            w.in-Done.ensures.1 ∙ ap (λ (l : List DeviceCall). done (writes c.args.half c.pieces.place piece) ∷ l) far.3
                ∙ sym (writes_more c.args.half c.args.at c.pieces.place far.0 piece (g.V.Device.calls c.args.device.now) far.2),
          ))
      | in-Interrupted w ↦ (
        far.0,
        far.1 ∙ ap (λ (l : List ℕ). joined_pieces far.0 ++ l) (sym (ap (λ (r : Bor (List ℕ)). r.now) w.rest-is)),
        (let same : c.match-write_at.place ≡ c.pieces.place = (let is = w.place-is in cc) in same) ∙ far.2,
        w.in-Interrupted.ensures ∙ far.3,
      )
    ]
