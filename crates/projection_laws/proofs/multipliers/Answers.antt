use Rattle.projection_laws.proofs.PointLaws.{at_each, least, nearest}
use Rattle.projection_laws.proofs.multipliers.Goals as goal

pub returns-clause-least : goal.returns-clause-least
returns-clause-least c = λ m r a bound d n first f h e x meets. least m r a bound d n first f e x (meets, at_each m r a d n first e x h)

pub returns-clause-nearest : goal.returns-clause-nearest
returns-clause-nearest c = λ m r a bound d n first second target weight l share f h s w e x meets. nearest m r a bound d n first second target weight l share
    f s w e x (meets, at_each m r a d n first e x h)

pub returns-clause-least_where_same : goal.returns-clause-least_where_same
returns-clause-least_where_same c = least

pub returns-clause-nearest_where_same : goal.returns-clause-nearest_where_same
returns-clause-nearest_where_same c = nearest
