use Rattle.visibility.proofs.layer.redraw.Goals as goal

pub returns : goal.returns
returns c = λ ch S B P at w named rows. record { drawn = c.draw_points.ensures ch S B at w; filled = c.redraw_pairs.ensures ch S P w.seeing named rows }
