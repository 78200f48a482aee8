-- What a writer of JSON is given of a value.
use Rattle.std.specs.Prelude.{ℕ, List, ◌∷◌, ◌++◌, codes}
use Rattle.json.specs.Token.{Token, key}
use Rattle.json.specs.Tree.{json_tokens}
use Rattle.serde_json.specs.Data.{Data, string, object, no_members}
use Rattle.serde_json.specs.Written.{outline}
use Rattle.wasi_guest.specs.declared.answer.Answer.{Answer}
use Rattle.wasi_tree.specs.NodeData.{NodeData, ContentData, file, directory, link, node_data_with}
use Rattle.wasi_tree.specs.Viewed.{viewed_content}
use Rattle.wasi_report.specs.Report.{list_value, answer_value, hex_value, put_all}
use Rattle.wasi_report.specs.declared.encode_nodes.LentNode.{LentNode}

-- the tokens of a value
abbrev pub tokens_of : Data → List Token
tokens_of d = json_tokens (outline d)

-- the tokens of a member
abbrev pub member_tokens : List ℕ → Data → List Token
member_tokens name d = key name ∷ tokens_of d

-- a node as plain data, where a directory has these names
abbrev pub lent_node : List (List ℕ × ℕ) → LentNode → NodeData
lent_node names node = node_data_with (viewed_content names node.content) node.bits node.atime node.mtime node.btime

-- answers, shown ranges, standard error and standard output, as members
abbrev pub outcome_tokens : List Answer → List (List ℕ) → List ℕ → List ℕ → List Token
outcome_tokens answers memory stderr stdout =
    member_tokens (codes "answers") (list_value answer_value answers)
    ++ member_tokens (codes "memory") (list_value hex_value memory)
    ++ member_tokens (codes "stderr") (hex_value stderr)
    ++ member_tokens (codes "stdout") (hex_value stdout)

-- what a node is, as a member
abbrev pub content_tokens : ContentData → List Token
content_tokens (file bytes) = member_tokens (codes "file") (hex_value bytes)
content_tokens (directory entries) = member_tokens (codes "dir") (object (put_all entries no_members))
content_tokens (link text) = member_tokens (codes "link") (string text)
