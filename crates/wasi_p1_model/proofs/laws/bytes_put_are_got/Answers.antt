use Rattle.wasi_p1_model.proofs.PutBytes.{bytes_are_put, files_are_held, put_bytes_stand, bytes_are_got, put_bytes_are_got}
use Rattle.wasi_p1_model.proofs.laws.bytes_put_are_got.Goals as goal

pub returns : goal.returns
returns c = record {
  put = bytes_are_put;
  held = files_are_held;
  stands = put_bytes_stand;
  got = bytes_are_got;
  same = put_bytes_are_got;
}
