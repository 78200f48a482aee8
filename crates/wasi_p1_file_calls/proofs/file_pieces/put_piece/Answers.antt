use Rattle.wasi_p1_file_calls.proofs.file_pieces.put_piece.Goals as goal

pub returns-then-modes-clause-front : goal.returns-then-modes-clause-front
returns-then-modes-clause-front g c = rw c.if-modes.true c.append_piece.ensures.front

pub returns-then-modes-clause-modelled : goal.returns-then-modes-clause-modelled
returns-then-modes-clause-modelled g c = rw c.if-modes.true c.append_piece.ensures.modelled

pub returns-clause-front : goal.returns-clause-front
returns-clause-front g c = rw c.if-modes.false c.write_piece.ensures.front

pub returns-clause-modelled : goal.returns-clause-modelled
returns-clause-modelled g c = rw c.if-modes.false c.write_piece.ensures.modelled
