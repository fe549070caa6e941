use Rattle.std.proofs.Common.{◌≡◌, ◌∙◌, ◌++◌, ◌∷◌, [], ◌+◌, ℕ, List, length, take, sym, ap, arith}
use Rattle.device_disk.specs.DeviceCalls.{DeviceCall, gave}
use Rattle.device_disk.specs.Pieces.{joined_pieces}
use Rattle.device_disk.proofs.Pieces.{joined_more, reads_more}
use Rattle.device_disk.proofs.whole.read_whole.Goals as goal
use Rattle.device_disk.proofs.whole.read_whole.Goals.{in-Done+in_ok-extend_from_slice-in-Done, in-Interrupted}

pub parts-preserved : goal.parts-preserved
parts-preserved g c =
    let far = c.parts.invariant in
    let before = g.V.Device.calls c.args.device.now in
    elim c.match-read_at.branch [
      | in-Done+in_ok-extend_from_slice-in-Done w ↦ (
          let piece = take w.in-Done.count c.read_at.new.buffer in
          let items : w.extend_from_slice.new.self.items ≡ c.parts.bytes.items ++ piece = w.in_ok-extend_from_slice-in-Done.ensures.items in
          let same : c.match-read_at.bytes.items ≡ w.extend_from_slice.new.self.items = (let is = w.bytes-is in cc) in
          let place : c.len-in-parts.result ≡ 0 + length (joined_pieces far.0.0) = omega (arith, c.len-in-parts.ensures, c.parts.bytes.ok.0, ap (λ (l : List ℕ). length l) far.0.1) in (
            (
              far.0.0 ++ piece ∷ [],
              same ∙ items ∙ ap (λ (l : List ℕ). l ++ piece) far.0.1 ∙ sym (joined_more far.0.0 piece),
              w.in-Done.ensures.calls.1 ∙ ap (λ (room : ℕ). gave c.args.half c.len-in-parts.result room piece ∷ g.V.Device.calls c.parts.device) far.1
                  ∙ ap (λ (l : List DeviceCall). gave c.args.half c.len-in-parts.result 65536 piece ∷ l) far.0.2
                  ∙ sym (reads_more c.args.half 65536 0 c.len-in-parts.result far.0.0 piece before place),
            ),
            c.read_at.ensures.size ∙ far.1,
          ))
      | in-Interrupted w ↦ (
        (far.0.0, (let same : c.match-read_at.bytes.items ≡ c.parts.bytes.items = (let is = w.bytes-is in cc) in same) ∙ far.0.1, w.in-Interrupted.ensures.calls ∙ far.0.2),
        c.read_at.ensures.size ∙ far.1,
      )
    ]
