use Rattle.nef_sover.proofs.Prelude.{refl, vector_of}
use Rattle.nef_sover.proofs.Sloops.{along-sloop, along-face}
use Rattle.nef_sover.proofs.overlaid.labels_along.Goals as goal

pub returns-in-Some : goal.returns-in-Some
returns-in-Some c = let h = c.in-Some.ensures.sloop in record { labels = along-sloop c.args.map.now c.requires.map c.args.normal.now c.in-Some.sloop h.0 h.1 }

pub returns : goal.returns
returns c =
    let star = c.in_ok-star.ensures.shows.star_of in let mark = c.in_ok-star.star.mark in
    record {
      labels = along-face c.args.map.now c.requires.map c.args.normal.now c.requires.normal c.requires.uncrossed c.in_default.ensures.sloop
          (vector_of c.on_circle.result) mark c.on_circle.ensures.on star.mark (record { normal = c.args.normal.now; mark = mark; pos = mark; neg = mark }) refl refl refl;
    }
