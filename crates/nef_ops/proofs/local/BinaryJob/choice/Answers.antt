use Rattle.nef_ops.proofs.local.BinaryJob.choice.Goals as goal

pub returns-then-ne : goal.returns-then-ne
returns-then-ne c = record {
  leads = λ s t y S T a b. (c.found_share-first_told.result, c.found_share-second_told.result, c.found_share-first_told.ensures.share s y S a, c.found_share-second_told.ensures.share t y T b, c.choice_of-told.ensures.leads);
}

pub returns : goal.returns
returns c = record {
  leads = λ s t y S T a b. (c.found_share-first_share.result, c.found_share-second_share.result, c.found_share-first_share.ensures.share s y S a, c.found_share-second_share.ensures.share t y T b, c.choice_of.ensures.leads);
}
