use Rattle.std.proofs.Common.{◌∙◌, refl, sym}
use Rattle.wasi_overlay.proofs.Contents.{data_of_directory, data_of_file, data_of_link}
use Rattle.wasi_overlay.proofs.over_store.OverStore.content.Goals as goal

pub returns-then-is_directory : goal.returns-then-is_directory
returns-then-is_directory c = data_of_directory _ _ (sym c.is_directory.ensures ∙ c.if-is_directory.true) refl

pub returns-then-is_file : goal.returns-then-is_file
returns-then-is_file c = data_of_file _ _ (sym c.is_file.ensures ∙ c.if-is_file.true) c.bytes.ensures

pub returns : goal.returns
returns c = data_of_link _ _ (sym c.is_directory.ensures ∙ c.if-is_directory.false) (sym c.is_file.ensures ∙ c.if-is_file.false)
    c.text.ensures.text
