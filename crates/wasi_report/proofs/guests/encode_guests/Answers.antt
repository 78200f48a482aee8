use Rattle.std.proofs.Common.{◌≡◌, ◌++◌, ◌∷◌, [], map, codes, rules, append_assoc}
use Rattle.std.proofs.lemmas.List.Elements.{All-map}
use Rattle.std.proofs.lemmas.Result.{on_ok_weaker}
use Rattle.json.specs.Token.{begin_object, end_object}
use Rattle.wasi_tree.specs.NodeData.{node_data}
use Rattle.wasi_report.specs.Report.{list_value, node_value}
use Rattle.wasi_report.specs.Guests.{guest_reported, guest_value}
use Rattle.wasi_report.specs.GuestsReadBack.{FitsGuest, FitsGuests}
use Rattle.wasi_report.specs.Encoded.{member_tokens}
use Rattle.wasi_report.proofs.Encoding.{four, encoded_seen}
use Rattle.wasi_report.proofs.guests.encode_guests.Goals as goal

pub returns-clause-tokens : goal.returns-clause-tokens
returns-clause-tokens g c =
    let guests = map guest_reported c.args.guests.now in
    let nodes = map node_data c.args.nodes.now in
    let opened : c.begin_object.new.self.tokens ≡ c.args.out.now.tokens ++ begin_object ∷ [] = search rules in
    let first : c.encode_list_at.new.out.tokens
    ≡ c.begin_object.new.self.tokens ++ member_tokens (codes "guests") (list_value guest_value guests) =
    encoded_seen guest_value guest_reported c.args.guests.now _ _ _ c.in_ok-encode_list_at.ensures.tokens in
    let second : c.encode_new_nodes.new.out.tokens
    ≡ c.encode_list_at.new.out.tokens ++ member_tokens (codes "tree") (list_value node_value nodes) = search (rules, append_assoc) in
    on_ok_weaker c.end_object.result (λ added.
    let closed : c.end_object.new.self.tokens ≡ c.encode_new_nodes.new.out.tokens ++ end_object ∷ [] = search rules in
    four _ _ _ _ _ (begin_object ∷ []) _ _ (end_object ∷ []) opened first second closed) c.end_object.ensures.ok

pub returns-clause-fits : goal.returns-clause-fits
unfolding FitsGuests
returns-clause-fits g c =
    on_ok_weaker c.end_object.result
    (λ _. (All-map FitsGuest guest_reported _ c.in_ok-encode_list_at.ensures.fits, c.in_ok-encode_new_nodes.ensures.fits))
    c.end_object.ensures.ok
