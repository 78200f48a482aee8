use Rattle.std.proofs.Common.{◌≡◌, Some, None, ap, sym, ◌∙◌, arith}
use Rattle.json.specs.Json.{read_key, parse_map}
use Rattle.json.proofs.Grammar.{read_key-shorter}
use Rattle.serde_json.specs.Data.{put, no_members}
use Rattle.wasi_form.specs.declared.shapes.Unread.TheVariants.{Shape}
use Rattle.wasi_form.proofs.Grammar.{made_of, none_made, next_value-shorter, all_members, member_less, no_members_left, no_key_left, member_unread_left}
use Rattle.wasi_form.proofs.Unreads.{passed_on, unread_part}
use Rattle.wasi_form.proofs.objects.members_left.Goals as goal

pub members-init : goal.members-init
members-init g c = record { before = no_members; is = c.none-all.ensures; left = all_members c.args.depth c.args.reader.now }

pub members-smaller : goal.members-smaller
members-smaller g c =
    let named : read_key c.members.reader ≡ Some (Some c.in-Some.key.now, c.next_key.new.self) = grind arith in
    let part = made_of (λ d. g.F.Fields.with c.in-Some.key.now d (g.F.Fields.see c.members.all)) _ _ _ c.in_ok-all.ensures in
    let after_key = read_key-shorter _ _ _ named in
    let shorter = next_value-shorter c.args.depth _ _ part.0 part.1 in
    omega arith

pub members-preserved : goal.members-preserved
members-preserved g c =
    let named : read_key c.members.reader ≡ Some (Some c.in-Some.key.now, c.next_key.new.self) = grind arith in
    let part = made_of (λ d. g.F.Fields.with c.in-Some.key.now d (g.F.Fields.see c.members.all)) _ _ _ c.in_ok-all.ensures in
    let before = c.members.invariant.before in record {
      before = put c.in-Some.key.now part.0 before;
      is = sym part.2 ∙ ap (g.F.Fields.with c.in-Some.key.now part.0) c.members.invariant.is ∙ sym (c.requires c.in-Some.key.now part.0 before);
      left = member_less c.members.invariant.left named part.1;
    }

pub returns-in_err-key : goal.returns-in_err-key
returns-in_err-key g c =
    passed_on _ c.from_residual.result Shape _ c.from_residual.ensures.1 (ap (parse_map g.F.Fields.of) (no_key_left c.members.invariant.left c.in_err-key.ensures.value))

pub returns-in_err-all : goal.returns-in_err-all
returns-in_err-all g c =
    let named : read_key c.members.reader ≡ Some (Some c.in-Some.key.now, c.next_key.new.self) = grind arith in
    passed_on _ c.from_residual-in_err-all.result _ _ c.from_residual-in_err-all.ensures.1
    (unread_part _ _ _ (λ none. ap (parse_map g.F.Fields.of) (member_unread_left c.members.invariant.left named (none_made _ _ none))) c.in_err-all.ensures)

pub returns : goal.returns
returns g c =
    let ends : read_key c.members.reader ≡ Some (None, c.next_key.new.self) = grind arith in
    ap (parse_map g.F.Fields.of) (no_members_left c.members.invariant.left ends) ∙ ap (λ all. Some (all, c.next_key.new.self)) (sym c.members.invariant.is)
