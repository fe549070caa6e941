use Rattle.std.proofs.Common.{◌≡◌, ◌++◌, ◌<◌, length, arith}
use Rattle.log_look.proofs.Reading.{last_piece, later_still, piece_on}
use Rattle.log_look.proofs.whole.read_whole.Goals as goal

pub returns-then-len-lt-PIECE-clause-whole : goal.returns-then-len-lt-PIECE-clause-whole
returns-then-len-lt-PIECE-clause-whole g c =
    let all : c.extend_from_slice.new.self.items ≡ c.pieces.bytes.items ++ c.in_ok-piece.piece.items = cc (c.in_ok-extend_from_slice.ensures.items, c.as_slice.ensures.value) in
    let few : length c.in_ok-piece.piece.items < 65536 = omega (arith, c.if-len-lt-PIECE.true, c.len-in-pieces.ensures) in
    last_piece c.args.half (g.F.LiveFiles.watch c.args.files.now) (g.F.LiveFiles.watch c.pieces.files) (g.F.LiveFiles.watch c.read_piece.new.files)
    c.pieces.bytes.items c.in_ok-piece.piece.items c.extend_from_slice.new.self.items c.len.result 65536
    c.pieces.invariant.later (omega (arith, c.len.ensures)) all c.pieces.invariant.read c.in_ok-piece.ensures.piece few

pub pieces-preserved : goal.pieces-preserved
pieces-preserved g c =
    let all : c.extend_from_slice.new.self.items ≡ c.pieces.bytes.items ++ c.in_ok-piece.piece.items = cc (c.in_ok-extend_from_slice.ensures.items, c.as_slice.ensures.value) in
    record {
      later = later_still (g.F.LiveFiles.watch c.args.files.now) (g.F.LiveFiles.watch c.pieces.files) (g.F.LiveFiles.watch c.read_piece.new.files) c.pieces.invariant.later c.read_piece.ensures.later;
      read = piece_on c.args.half (g.F.LiveFiles.watch c.args.files.now) (g.F.LiveFiles.watch c.pieces.files) (g.F.LiveFiles.watch c.read_piece.new.files)
          c.pieces.bytes.items c.in_ok-piece.piece.items c.extend_from_slice.new.self.items c.len.result 65536
          c.pieces.invariant.later (omega (arith, c.len.ensures)) all c.pieces.invariant.read c.in_ok-piece.ensures.piece;
    }
