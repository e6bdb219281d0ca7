mod WorkedRoutes
