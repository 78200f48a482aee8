use Rattle.wasi_p1_model.proofs.Telling.{Put}
use Rattle.wasi_p1_env_calls.proofs.subscriptions.put_events.Given as goal

-- what was written so far, and what is left
abbrev pub invariant-loop-item : goal.invariant-loop-item
invariant-loop-item l = Put l.moment l.waited l.sizes l.at l.item-index l.read l.place l.fn.memory l.memory
